use Rattle.std.proofs.Common.{◌∙◌, arith, subst, sym}
use Rattle.sql_lexer.specs.ScriptLexing.{Cuts, IsLexing, Lexing, longer}
use Rattle.sql_lexer.proofs.ScriptLexing.{HasCut, HasCutAll, cut_to_end, has_cut_none, moved, rest_at, room_at}
use Rattle.sql_lexer.proofs.script.lexer.ScriptLexer.next_statement.Goals as goal
use Rattle.sql_lexer.proofs.script.lexer.ScriptLexer.next_statement.Goals.{else-loop-at-test, then-loop-at-test+in_ok-token+then-ends_statement}

pub push_next-requires-clause-rest : goal.push_next-requires-clause-rest
push_next-requires-clause-rest c =
    rest_at (record { text = c.as_bytes-bytes.result.now; at = c.loop-at.at; place = c.loop-at.place }) c.loop-at.invariant.is c.loop-at-test.true

pub push_next-requires-clause-room : goal.push_next-requires-clause-room
push_next-requires-clause-room c =
    room_at (record { text = c.as_bytes-bytes.result.now; at = c.loop-at.at; place = c.loop-at.place }) c.loop-at.invariant.is c.loop-at-test.true

pub overflow_add-at : goal.overflow_add-at
overflow_add-at c =
    let begun : Lexing = record { text = c.self.inside.text.now; at = c.self.inside.at; place = c.self.inside.place } in
    let now : Lexing = record { text = c.as_bytes-bytes.result.now; at = c.loop-at.at; place = c.loop-at.place } in
    let within =
    (moved begun now c.args.tokens.now.items c.loop-at.tokens.items c.push_next.new.tokens.items c.in_ok-token.token c.push_next.new.place
    c.loop-at.invariant c.loop-at-test.true c.in_ok-token.ensures.token c.in_ok-token.ensures.place).within in
    omega (arith, within, c.loop-at.invariant.is.short)

pub loop-at-init : goal.loop-at-init
loop-at-init c =
    let me : Lexing = record { text = c.self.inside.text.now; at = c.self.inside.at; place = c.self.inside.place } in
    subst (λ text. HasCut me (record me { text = text }) c.args.tokens.now.items c.args.tokens.now.items) (sym c.as_bytes-bytes.ensures.value)
    (has_cut_none me c.args.tokens.now.items c.self.invariant)

pub loop-at-smaller : goal.loop-at-smaller
loop-at-smaller c =
    let begun : Lexing = record { text = c.self.inside.text.now; at = c.self.inside.at; place = c.self.inside.place } in
    let now : Lexing = record { text = c.as_bytes-bytes.result.now; at = c.loop-at.at; place = c.loop-at.place } in
    let some =
    (moved begun now c.args.tokens.now.items c.loop-at.tokens.items c.push_next.new.tokens.items c.in_ok-token.token c.push_next.new.place
    c.loop-at.invariant c.loop-at-test.true c.in_ok-token.ensures.token c.in_ok-token.ensures.place).some in
    omega (arith, some, c.loop-at-test.true)

pub loop-at-preserved : goal.loop-at-preserved
loop-at-preserved c =
    let begun : Lexing = record { text = c.self.inside.text.now; at = c.self.inside.at; place = c.self.inside.place } in
    let now : Lexing = record { text = c.as_bytes-bytes.result.now; at = c.loop-at.at; place = c.loop-at.place } in
    (moved begun now c.args.tokens.now.items c.loop-at.tokens.items c.push_next.new.tokens.items c.in_ok-token.token c.push_next.new.place
    c.loop-at.invariant c.loop-at-test.true c.in_ok-token.ensures.token c.in_ok-token.ensures.place).goes_on (sym c.ends_statement.ensures ∙ c.if-ends_statement.false)

pub invariant_of-self : goal.invariant_of-self
invariant_of-self c =
    let begun : Lexing = record { text = c.self.inside.text.now; at = c.self.inside.at; place = c.self.inside.place } in
    let now : Lexing = record { text = c.as_bytes-bytes.result.now; at = c.loop-at.at; place = c.loop-at.place } in
    let later : Lexing = record { text = c.as_bytes-bytes.result.now; at = c.loop-at-test.at; place = c.loop-at-test.place } in
    let all : HasCutAll begun later c.args.tokens.now.items c.loop-at-test.tokens.items =
    elim c.loop-at-test.branch [
      | else-loop-at-test w ↦
          rw (w.tokens-is, w.at-is, w.place-is)
          (cut_to_end begun now c.args.tokens.now.items c.loop-at.tokens.items c.loop-at.invariant (omega (arith, w.loop-at-test.false)))
      | then-loop-at-test+in_ok-token+then-ends_statement w ↦
          rw (w.tokens-is, w.at-is, w.place-is)
          ((moved begun now c.args.tokens.now.items c.loop-at.tokens.items w.push_next.new.tokens.items w.in_ok-token.token w.push_next.new.place
          c.loop-at.invariant w.loop-at-test.true w.in_ok-token.ensures.token w.in_ok-token.ensures.place).ends (sym w.ends_statement.ensures ∙ w.if-ends_statement.true))
    ] in
    subst (λ text. IsLexing (record { text = text; at = later.at; place = later.place })) all.text all.is

pub returns-clause-cuts : goal.returns-clause-cuts
returns-clause-cuts c =
    let begun : Lexing = record { text = c.self.inside.text.now; at = c.self.inside.at; place = c.self.inside.place } in
    let now : Lexing = record { text = c.as_bytes-bytes.result.now; at = c.loop-at.at; place = c.loop-at.place } in
    let later : Lexing = record { text = c.as_bytes-bytes.result.now; at = c.loop-at-test.at; place = c.loop-at-test.place } in
    let all : HasCutAll begun later c.args.tokens.now.items c.loop-at-test.tokens.items =
    elim c.loop-at-test.branch [
      | else-loop-at-test w ↦
          rw (w.tokens-is, w.at-is, w.place-is)
          (cut_to_end begun now c.args.tokens.now.items c.loop-at.tokens.items c.loop-at.invariant (omega (arith, w.loop-at-test.false)))
      | then-loop-at-test+in_ok-token+then-ends_statement w ↦
          rw (w.tokens-is, w.at-is, w.place-is)
          ((moved begun now c.args.tokens.now.items c.loop-at.tokens.items w.push_next.new.tokens.items w.in_ok-token.token w.push_next.new.place
          c.loop-at.invariant w.loop-at-test.true w.in_ok-token.ensures.token w.in_ok-token.ensures.place).ends (sym w.ends_statement.ensures ∙ w.if-ends_statement.true))
    ] in
    rw (← c.self.view_is) (subst (λ text. Cuts begun (record { text = text; at = later.at; place = later.place }) c.args.tokens.now.items c.loop-at-test.tokens.items) all.text all.cuts)

pub returns-clause-longer : goal.returns-clause-longer
returns-clause-longer c =
    let begun : Lexing = record { text = c.self.inside.text.now; at = c.self.inside.at; place = c.self.inside.place } in
    let now : Lexing = record { text = c.as_bytes-bytes.result.now; at = c.loop-at.at; place = c.loop-at.place } in
    let later : Lexing = record { text = c.as_bytes-bytes.result.now; at = c.loop-at-test.at; place = c.loop-at-test.place } in
    let all : HasCutAll begun later c.args.tokens.now.items c.loop-at-test.tokens.items =
    elim c.loop-at-test.branch [
      | else-loop-at-test w ↦
          rw (w.tokens-is, w.at-is, w.place-is)
          (cut_to_end begun now c.args.tokens.now.items c.loop-at.tokens.items c.loop-at.invariant (omega (arith, w.loop-at-test.false)))
      | then-loop-at-test+in_ok-token+then-ends_statement w ↦
          rw (w.tokens-is, w.at-is, w.place-is)
          ((moved begun now c.args.tokens.now.items c.loop-at.tokens.items w.push_next.new.tokens.items w.in_ok-token.token w.push_next.new.place
          c.loop-at.invariant w.loop-at-test.true w.in_ok-token.ensures.token w.in_ok-token.ensures.place).ends (sym w.ends_statement.ensures ∙ w.if-ends_statement.true))
    ] in
    rw (← c.self.view_is)
    (λ ends lt rest. subst (λ text. Cuts (longer rest begun) (longer rest (record { text = text; at = later.at; place = later.place })) c.args.tokens.now.items c.loop-at-test.tokens.items) all.text (all.longer ends lt rest))
