-- The refusals of stages as those of a call.
use Rattle.std.proofs.Common.{ℕ, List}
use Rattle.std.specs.Prelude.{IsUtf8}
use Rattle.squawk_table.specs.RawTable.{Table as RawTable}
use Rattle.caliperdock_c.specs.Refusals.{Given, HasTable, Refuses, RefusesLog, RefusesTable, RefusesText, RefusesTokenNumbers}
use Rattle.caliperdock_c.specs.declared.answer.Refusal.{Refusal}
use Rattle.caliperdock_c.specs.declared.answer.Refusal.TheVariants.{OutOfMemory, NotUtf8, UnknownToken, Table, TooManyEvents, UnknownEvent, BadLink, NoRoot, DoesNotFit, TooManyErrors}
use Rattle.caliperdock_c.specs.declared.token.CToken.{CToken}

pub table_text : (text : List ℕ) (tokens : List CToken) (reason : Refusal) → RefusesText text reason → RefusesTable text tokens reason
table_text text tokens (NotUtf8 at) r = r
table_text text tokens OutOfMemory r = absurd r
table_text text tokens (UnknownToken i) r = absurd r
table_text text tokens (Table reason) r = absurd r
table_text text tokens TooManyEvents r = absurd r
table_text text tokens (UnknownEvent i) r = absurd r
table_text text tokens (BadLink i) r = absurd r
table_text text tokens NoRoot r = absurd r
table_text text tokens DoesNotFit r = absurd r
table_text text tokens TooManyErrors r = absurd r

pub table_tokens : (text : List ℕ) (tokens : List CToken) (reason : Refusal) → IsUtf8 text → RefusesTokenNumbers tokens reason → RefusesTable text tokens reason
table_tokens text tokens OutOfMemory utf8 r = utf8
table_tokens text tokens (UnknownToken i) utf8 r = (utf8, r)
table_tokens text tokens (NotUtf8 at) utf8 r = absurd r
table_tokens text tokens (Table reason) utf8 r = absurd r
table_tokens text tokens TooManyEvents utf8 r = absurd r
table_tokens text tokens (UnknownEvent i) utf8 r = absurd r
table_tokens text tokens (BadLink i) utf8 r = absurd r
table_tokens text tokens NoRoot utf8 r = absurd r
table_tokens text tokens DoesNotFit utf8 r = absurd r
table_tokens text tokens TooManyErrors utf8 r = absurd r

pub of_table : (g : Given) (reason : Refusal) → RefusesTable g.text g.tokens reason → Refuses g reason
of_table g OutOfMemory r = r
of_table g (NotUtf8 at) r = r
of_table g (UnknownToken i) r = r
of_table g (Table reason) r = r
of_table g TooManyEvents r = absurd r
of_table g (UnknownEvent i) r = absurd r
of_table g (BadLink i) r = absurd r
of_table g NoRoot r = absurd r
of_table g DoesNotFit r = absurd r
of_table g TooManyErrors r = absurd r

pub of_events : (g : Given) (table : RawTable) (reason : Refusal) → HasTable g.text g.tokens table → RefusesLog g.messages g.events reason → Refuses g reason
of_events g table OutOfMemory has r = has.tokens_are.utf8
of_events g table TooManyEvents has r = (table, has, r)
of_events g table (UnknownEvent i) has r = (table, has, r.0, r.1)
of_events g table (NotUtf8 at) has r = absurd r
of_events g table (UnknownToken i) has r = absurd r
of_events g table (Table reason) has r = absurd r
of_events g table (BadLink i) has r = (table, r.0, record { of_text = has; few = r.1; log_is = r.2 }, r.3)
of_events g table NoRoot has r = absurd r
of_events g table DoesNotFit has r = absurd r
of_events g table TooManyErrors has r = absurd r
