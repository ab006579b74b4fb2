-- What a call is given, and why it does nothing.
use Rattle.std.specs.Prelude.{◌≡◌, ℕ, ◌<◌, ◌≤◌, Option, Some, None, List, IsUtf8, length, map, take}
use Rattle.std.specs.List.{HoldsAt}
use Rattle.std.specs.Str.Lossy.{utf8_valid_len}
use Rattle.squawk_tokens.specs.AcceptedTokens.{AreAcceptedTokens, RefusesTokens}
use Rattle.squawk_tokens.specs.declared.token.Token.{Token}
use Rattle.squawk_output.specs.EventLog.{Log, LinksLead, list_of}
use Rattle.squawk_output.specs.OneRoot.{StandsInOneRoot}
use Rattle.squawk_output.specs.Steps.{Step, without_errors}
use Rattle.squawk_table.specs.RawTable.{table_of}
use Rattle.squawk_table.specs.RawTable.{Table as RawTable}
use Rattle.squawk_table.specs.Shape.{Fits, no_keywords}
use Rattle.caliperdock_c.specs.Events.{event_of}
use Rattle.caliperdock_c.specs.Links.{IsFirstAstray}
use Rattle.caliperdock_c.specs.Tokens.{token_of}
use Rattle.caliperdock_c.specs.declared.answer.Refusal.{Refusal}
use Rattle.caliperdock_c.specs.declared.answer.Refusal.TheVariants.{OutOfMemory, NotUtf8, UnknownToken, Table, TooManyEvents, UnknownEvent, BadLink, NoRoot, DoesNotFit, TooManyErrors}
use Rattle.caliperdock_c.specs.declared.event.CEvent.{CEvent}
use Rattle.caliperdock_c.specs.declared.token.CToken.{CToken}

-- ---- items that are written as numbers

-- item i is the first that isn't written as one
pub record IsFirstUnknown {A B : Type 0} (read : A → Option B) (items : List A) (i : ℕ) : Type 0 where
  pub within : i < length items
  pub known : List B
  pub before : map Some known ≡ map read (take i items)
  pub unknown : HoldsAt (λ item. read item ≡ None) items i

-- why bytes are no text
abbrev pub RefusesText : List ℕ → Refusal → Type 0
RefusesText text (NotUtf8 at) = (¬ (IsUtf8 text)) × (at ≡ utf8_valid_len text)
RefusesText text reason = ⊥

-- why tokens aren't read; at want of memory nothing is said of them
abbrev pub RefusesTokenNumbers : List CToken → Refusal → Type 0
RefusesTokenNumbers tokens OutOfMemory = Unit {0}
RefusesTokenNumbers tokens (UnknownToken i) = IsFirstUnknown token_of tokens i
RefusesTokenNumbers tokens reason = ⊥

-- why events are no log whose links lead to later starts
abbrev pub RefusesLog : List ℕ → List CEvent → Refusal → Type 0
RefusesLog messages events OutOfMemory = Unit {0}
RefusesLog messages events TooManyEvents = 2147483648 < length events
RefusesLog messages events (UnknownEvent i) = (length events ≤ 2147483648) × IsFirstUnknown (event_of messages) events i
RefusesLog messages events (BadLink i) =
    (log : Log) × (length events ≤ 2147483648) × (map Some log ≡ map (event_of messages) events) × IsFirstAstray log i
RefusesLog messages events reason = ⊥

-- ---- what is given

-- a text, raw tokens, events and the messages of errors
pub record Given : Type 0 where
  pub text : List ℕ
  pub tokens : List CToken
  pub events : List CEvent
  pub messages : List ℕ

abbrev pub given : List ℕ → List CToken → List CEvent → List ℕ → Given
given text tokens events messages = record { text = text; tokens = tokens; events = events; messages = messages }

-- the text is UTF-8, and these are the raw tokens
pub record AreTokens (text : List ℕ) (tokens : List CToken) (raw : List Token) : Type 0 where
  pub utf8 : IsUtf8 text
  pub are : map Some raw ≡ map token_of tokens

-- a text with accepted raw tokens, and its table
pub record HasTable (text : List ℕ) (tokens : List CToken) (table : RawTable) : Type 0 where
  pub raw : List Token
  pub tokens_are : AreTokens text tokens raw
  pub accepted : AreAcceptedTokens text raw
  pub is : table ≡ table_of no_keywords text raw

-- the table, and the log of the events
pub record HasLog (g : Given) (table : RawTable) (log : Log) : Type 0 where
  pub of_text : HasTable g.text g.tokens table
  pub few : length g.events ≤ 2147483648
  pub log_is : map Some log ≡ map (event_of g.messages) g.events

-- the same, where each link leads to a later start; these are the steps
pub record HasSteps (g : Given) (table : RawTable) (steps : List Step) : Type 0 where
  pub log : Log
  pub of_log : HasLog g table log
  pub links : LinksLead log
  pub are : steps ≡ list_of log

-- ---- refusals

-- Why a text has no table: what stands before in this list is good.
abbrev pub RefusesTable : List ℕ → List CToken → Refusal → Type 0
RefusesTable text tokens OutOfMemory = IsUtf8 text
RefusesTable text tokens (NotUtf8 at) = (¬ (IsUtf8 text)) × (at ≡ utf8_valid_len text)
RefusesTable text tokens (UnknownToken i) = IsUtf8 text × IsFirstUnknown token_of tokens i
RefusesTable text tokens (Table reason) = (raw : List Token) × AreTokens text tokens raw × RefusesTokens text raw reason
RefusesTable text tokens reason = ⊥

-- Why nothing is sent: the first reason of this list, and what stands before is good.
abbrev pub Refuses : Given → Refusal → Type 0
Refuses g OutOfMemory = IsUtf8 g.text
Refuses g (NotUtf8 at) = (¬ (IsUtf8 g.text)) × (at ≡ utf8_valid_len g.text)
Refuses g (UnknownToken i) = IsUtf8 g.text × IsFirstUnknown token_of g.tokens i
Refuses g (Table reason) = (raw : List Token) × AreTokens g.text g.tokens raw × RefusesTokens g.text raw reason
Refuses g TooManyEvents = (table : RawTable) × HasTable g.text g.tokens table × (2147483648 < length g.events)
Refuses g (UnknownEvent i) = (table : RawTable) × HasTable g.text g.tokens table × (length g.events ≤ 2147483648) × IsFirstUnknown (event_of g.messages) g.events i
Refuses g (BadLink i) = (table : RawTable) × (log : Log) × HasLog g table log × IsFirstAstray log i
Refuses g NoRoot = (table : RawTable) × (steps : List Step) × HasSteps g table steps × (¬ (StandsInOneRoot (without_errors steps)))
Refuses g DoesNotFit = (table : RawTable) × (steps : List Step) × HasSteps g table steps × StandsInOneRoot (without_errors steps) × (¬ (Fits table steps))
Refuses g TooManyErrors = ⊥
