use Rattle.std.proofs.Common.{◌∙◌, inl, [], ap, arith, length, length-append, refl, subst, sym}
use Rattle.std.specs.Prelude.{Err, Ok}
use Rattle.std.proofs.KnownBytes.{Appends-nil, Consumes-nil}
use Rattle.std.proofs.lemmas.Result.{err_from_is_err_and}
use Rattle.sql_reader.specs.Readers.{Script}
use Rattle.sql_tree.specs.OnTheWay.{AfterScript}
use Rattle.sql_tree.specs.declared.unread.Unread.TheVariants.{OutOfMemory}
use Rattle.sql_tree.proofs.ScriptFronts.{InScript, nothing_before, script_over}
use Rattle.sql_tree.proofs.ScriptTexts.{script_ends, script_faults, script_lost, script_next, script_stops}
use Rattle.sql_tree.proofs.telling.Telling.read.Goals as goal

pub loop-init : goal.loop-init
loop-init g c = λ sql listing name telling begins.
    let t = c.args.self.now in
    let p = g.W.Write.contents c.args.printer.now.out in
    let e = g.E.Write.contents c.args.printer.now.errors in
    let remaining = g.R.Read.remaining c.args.reader in
    subst (λ (s : Script). InScript sql listing name p p e e remaining s c.start-before.result t) (sym c.new-script.ensures)
    (record {
      gone = [];
      passed_is = refl;
      consumes = Consumes-nil remaining;
      before_is = λ countable. c.start-before.ensures;
      enough = inl refl;
      opened = refl;
      out = [];
      errs = [];
      prints = Appends-nil p;
      prints_errors = Appends-nil e;
      telling = telling;
      told = nothing_before sql t begins;
    })

pub returns-in_err-read-clause-tells : goal.returns-in_err-read-clause-tells
returns-in_err-read-clause-tells g c = λ sql listing name telling begins.
    let b = c.loop.invariant sql listing name telling begins in
    let error = err_from_is_err_and c.from_residual.result c.from_residual.ensures.1 in
    let p = g.W.Write.contents c.args.printer.now.out in
    let p_now = g.W.Write.contents c.loop.printer.out in
    let e = g.E.Write.contents c.args.printer.now.errors in
    let e_now = g.E.Write.contents c.loop.printer.errors in
    let remaining = g.R.Read.remaining c.args.reader in
    subst (AfterScript remaining sql listing name p p_now e e_now c.loop.self) (sym (error.1 ∙ ap Err error.2))
    (script_lost sql listing name p p_now e e_now remaining c.loop.script c.read.new.self c.loop.before c.loop.self b c.read.ensures.reads c.loop.self OutOfMemory refl)

pub returns-in_err-count-clause-tells : goal.returns-in_err-count-clause-tells
returns-in_err-count-clause-tells g c = λ sql listing name telling begins.
    let error = err_from_is_err_and c.from_residual-in_err-count.result c.from_residual-in_err-count.ensures.1 in
    subst
    (AfterScript (g.R.Read.remaining c.args.reader) sql listing name (g.W.Write.contents c.args.printer.now.out) (g.W.Write.contents c.text.new.printer.out)
    (g.E.Write.contents c.args.printer.now.errors) (g.E.Write.contents c.text.new.printer.errors) c.text.new.self) (sym (error.1 ∙ ap Err error.2))
    (script_stops sql listing name (g.W.Write.contents c.args.printer.now.out) (g.W.Write.contents c.loop.printer.out)
    (g.E.Write.contents c.args.printer.now.errors) (g.E.Write.contents c.loop.printer.errors) (g.R.Read.remaining c.args.reader) c.loop.script c.read.new.self c.loop.before c.loop.self
    (c.loop.invariant sql listing name telling begins) c.read.ensures.reads c.text-text.result c.text-text.ensures c.text.new.self (g.W.Write.contents c.text.new.printer.out) (g.E.Write.contents c.text.new.printer.errors) c.in_err-count.field-0.0 c.in_err-count.ensures.tells)

pub returns-in-End-clause-tells : goal.returns-in-End-clause-tells
returns-in-End-clause-tells g c = λ sql listing name telling begins.
    script_ends sql listing name (g.W.Write.contents c.args.printer.now.out) (g.W.Write.contents c.loop.printer.out)
    (g.E.Write.contents c.args.printer.now.errors) (g.E.Write.contents c.loop.printer.errors) (g.R.Read.remaining c.args.reader) c.loop.script c.read.new.self c.loop.before c.loop.self
    (c.loop.invariant sql listing name telling begins) c.read.ensures.reads c.text-text.result c.text-text.ensures c.text.new.self (g.W.Write.contents c.text.new.printer.out) (g.E.Write.contents c.text.new.printer.errors) c.in_ok-count.count c.in_ok-count.place c.in_ok-count.ensures.tells c.in-End.is (Ok tt) refl

pub returns-in-Fault-clause-tells : goal.returns-in-Fault-clause-tells
returns-in-Fault-clause-tells g c = λ sql listing name telling begins.
    subst
    (λ why. AfterScript (g.R.Read.remaining c.args.reader) sql listing name (g.W.Write.contents c.args.printer.now.out) (g.W.Write.contents c.text.new.printer.out)
    (g.E.Write.contents c.args.printer.now.errors) (g.E.Write.contents c.text.new.printer.errors) c.text.new.self (Err why)) (sym c.into.ensures)
    (script_faults sql listing name (g.W.Write.contents c.args.printer.now.out) (g.W.Write.contents c.loop.printer.out)
    (g.E.Write.contents c.args.printer.now.errors) (g.E.Write.contents c.loop.printer.errors) (g.R.Read.remaining c.args.reader) c.loop.script c.read.new.self c.loop.before c.loop.self
    (c.loop.invariant sql listing name telling begins) c.read.ensures.reads c.text-text.result c.text-text.ensures c.text.new.self (g.W.Write.contents c.text.new.printer.out) (g.E.Write.contents c.text.new.printer.errors) c.in_ok-count.count c.in_ok-count.place c.in_ok-count.ensures.tells c.in-Fault.error c.in-Fault.is)

pub go_on-requires : goal.go_on-requires
go_on-requires g c =
    let within = c.in_ok-count.ensures.within in
    omega (arith, within, ap length c.text-text.ensures.unread, length-append c.text-text.result.text.now c.text-text.ensures.left)

pub loop-preserved : goal.loop-preserved
loop-preserved g c = λ sql listing name telling begins.
    let within = c.in_ok-count.ensures.within in
    let is = c.text-text.ensures in
    let s : Script = c.read.new.self in
    script_next sql listing name (g.W.Write.contents c.args.printer.now.out) (g.W.Write.contents c.loop.printer.out)
    (g.E.Write.contents c.args.printer.now.errors) (g.E.Write.contents c.loop.printer.errors) (g.R.Read.remaining c.args.reader) c.loop.script c.read.new.self c.loop.before c.loop.self
    (c.loop.invariant sql listing name telling begins) c.read.ensures.reads c.text-text.result c.text-text.ensures c.text.new.self (g.W.Write.contents c.text.new.printer.out) (g.E.Write.contents c.text.new.printer.errors) c.in_ok-count.count c.in_ok-count.place c.in_ok-count.ensures.tells
    c.in-More.is c.go_on.new.self c.go_on.ensures c.pass.new.self c.leaving.result.now c.leaving.ensures
    (omega (arith, within, is.start, ap length is.window, ap length is.unread, length-append s.kept s.unread, length-append c.text-text.result.text.now is.left)) c.pass.ensures

pub returns-clause-tells : goal.returns-clause-tells
returns-clause-tells g c = λ sql listing name telling begins.
    let b = c.loop.invariant sql listing name telling begins in
    let p = g.W.Write.contents c.args.printer.now.out in
    let p_now = g.W.Write.contents c.loop.printer.out in
    let e = g.E.Write.contents c.args.printer.now.errors in
    let e_now = g.E.Write.contents c.loop.printer.errors in
    subst (λ why. AfterScript (g.R.Read.remaining c.args.reader) sql listing name p p_now e e_now c.loop.self (Err why)) (sym c.into-2.ensures)
    (script_over sql listing name p p_now e e_now (g.R.Read.remaining c.args.reader) c.loop.script c.loop.before c.loop.self b c.loop.self OutOfMemory refl)
