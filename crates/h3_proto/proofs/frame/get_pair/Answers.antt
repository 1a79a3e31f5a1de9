use Rattle.std.proofs.Common.{rules, ap, ap₂, sym, ◌∙◌, ◌++◌, take, drop}
use Rattle.std.proofs.lemmas.List.{take-append-drop}
use Rattle.h3_proto.specs.Settings.{behind_id}
use Rattle.h3_proto.proofs.frame.get_pair.Goals as goal

pub returns-in_err-id-clause-left : goal.returns-in_err-id-clause-left
returns-in_err-id-clause-left g c = λ _.
    let old = g.B.Buf.unread c.args.buf.now in
    c.in_err-id.ensures.same (search rules) ∙ sym (take-append-drop c.args.len old)
    ∙ ap (λ o. behind_id (take c.args.len old) o ++ drop c.args.len old) (sym (c.in_err-id.ensures.none (search rules)))

pub returns-in_err-value-clause-left : goal.returns-in_err-value-clause-left
returns-in_err-value-clause-left g c = λ _.
    let old = g.B.Buf.unread c.args.buf.now in
    let some = c.in_ok-id.ensures.some in
    c.in_err-value.ensures.same (search rules) ∙ sym (take-append-drop c.in_ok-id.behind (g.B.Buf.unread c.get_var_within.new.self))
    ∙ ap₂ (λ o l. behind_id (take c.args.len old) o ++ l) (sym some.0) (sym some.1)
