use Rattle.std.proofs.Common.{refl, arith, sym, ◌∙◌, ap, subst}
use Rattle.std.proofs.lemmas.Grind.{common_steps}
use Rattle.std.proofs.lemmas.List.{length-map}
use Rattle.h3_script.specs.Pieces.{texts}
use Rattle.h3_script.specs.Script.{RefusesScript}
use Rattle.h3_script.proofs.Scripts.{nothing, next_line, line_skipped, first_setup, next_event, refused_far, first_refused, next_refused, refused_empty, script_read}
use Rattle.h3_script.proofs.script.parse.Goals as goal
use Rattle.h3_script.proofs.script.parse.Goals.{then-end-most-via-then-end-most, then-end-most-via-else-end-most+then-line-most, then-is_none+in-Ok, else-is_none+in-Ok-event_line+in_ok-push-in-Ok-event_line}

pub returns-then-end-most-clause-err : goal.returns-then-end-most-clause-err
returns-then-end-most-clause-err c =
    refused_far c.args.most c.loop-i.i c.loop-i.end c.args.text.now _ _ _ _ (ap texts c.as_slice-lines.ensures.value ∙ c.in_ok-found.ensures)
    (next_line c.args.most c.as_slice-lines.result.now c.loop-i.i _ nothing c.loop-i.setup c.loop-i.events.items c.loop-i.end c.loop-i.invariant c.loop-i-test.true refl)
    (elim c.then-end-most.branch [
      | then-end-most-via-then-end-most w ↦ grind (arith, common_steps)
      | then-end-most-via-else-end-most+then-line-most w ↦ grind (arith, common_steps)
    ])

pub loop-i-preserved-then-is_skipped : goal.loop-i-preserved-then-is_skipped
loop-i-preserved-then-is_skipped c =
    line_skipped c.args.most c.loop-i.i c.loop-i.end _ _ _ _ _
    (next_line c.args.most c.as_slice-lines.result.now c.loop-i.i _ nothing c.loop-i.setup c.loop-i.events.items c.loop-i.end c.loop-i.invariant c.loop-i-test.true refl) refl (grind (arith, common_steps)) (sym c.is_skipped.ensures ∙ c.if-is_skipped.true)

pub returns-in-Err-clause-err : goal.returns-in-Err-clause-err
returns-in-Err-clause-err c =
    subst (RefusesScript c.args.most c.args.text.now) (sym c.at.ensures)
    (first_refused c.args.most c.loop-i.i c.loop-i.end c.args.text.now _ _ _ _ c.in-Err.e c.if-is_none.ensures (ap texts c.as_slice-lines.ensures.value ∙ c.in_ok-found.ensures)
    (next_line c.args.most c.as_slice-lines.result.now c.loop-i.i _ nothing c.loop-i.setup c.loop-i.events.items c.loop-i.end c.loop-i.invariant c.loop-i-test.true refl) (sym c.is_skipped.ensures ∙ c.if-is_skipped.false) c.in-Err.ensures.err)

pub returns-in-Err-event_line-clause-err : goal.returns-in-Err-event_line-clause-err
returns-in-Err-event_line-clause-err c =
    subst (RefusesScript c.args.most c.args.text.now) (sym c.at-in-Err-event_line.ensures)
    (next_refused c.args.most c.loop-i.i c.loop-i.end c.args.text.now _ _ _ _ c.in-Err-event_line.e c.if-is_none.ensures (ap texts c.as_slice-lines.ensures.value ∙ c.in_ok-found.ensures)
    (next_line c.args.most c.as_slice-lines.result.now c.loop-i.i _ nothing c.loop-i.setup c.loop-i.events.items c.loop-i.end c.loop-i.invariant c.loop-i-test.true refl) (sym c.is_skipped.ensures ∙ c.if-is_skipped.false) c.in-Err-event_line.ensures.err)

pub loop-i-preserved : goal.loop-i-preserved
loop-i-preserved c = elim c.if-is_none.branch [
  | then-is_none+in-Ok w ↦
      rw (w.setup-is, w.events-is)
      (first_setup c.args.most c.loop-i.i c.loop-i.end _ _ _ c.loop-i.setup c.loop-i.events.items w.in-Ok.made w.if-is_none.ensures
      (next_line c.args.most c.as_slice-lines.result.now c.loop-i.i _ nothing c.loop-i.setup c.loop-i.events.items c.loop-i.end c.loop-i.invariant c.loop-i-test.true refl)
      refl (grind (arith, common_steps)) (sym c.is_skipped.ensures ∙ c.if-is_skipped.false) w.in-Ok.ensures.ok)
  | else-is_none+in-Ok-event_line+in_ok-push-in-Ok-event_line w ↦
      rw (w.setup-is, w.events-is)
      (next_event c.args.most c.loop-i.i c.loop-i.end _ _ _ c.loop-i.setup c.loop-i.events.items w.push.new.self.items w.in-Ok-event_line.event w.if-is_none.ensures
      (next_line c.args.most c.as_slice-lines.result.now c.loop-i.i _ nothing c.loop-i.setup c.loop-i.events.items c.loop-i.end c.loop-i.invariant c.loop-i-test.true refl)
      refl (grind (arith, common_steps)) (sym c.is_skipped.ensures ∙ c.if-is_skipped.false) w.in-Ok-event_line.ensures.ok w.in_ok-push-in-Ok-event_line.ensures.items)
]

pub returns-in-Some-clause-ok : goal.returns-in-Some-clause-ok
returns-in-Some-clause-ok c =
    script_read c.args.most c.loop-i.i c.loop-i.end c.args.text.now _ c.loop-i.setup c.in-Some.setup c.loop-i.events.items (ap texts c.as_slice-lines.ensures.value ∙ c.in_ok-found.ensures)
    (omega (arith, length-map c.as_slice-lines.result.now (λ r. r.now))) c.loop-i.invariant c.in-Some.is

pub returns-clause-err : goal.returns-clause-err
returns-clause-err c =
    refused_empty c.args.most c.loop-i.i c.loop-i.end c.args.text.now _ c.loop-i.setup c.loop-i.events.items (ap texts c.as_slice-lines.ensures.value ∙ c.in_ok-found.ensures)
    (omega (arith, length-map c.as_slice-lines.result.now (λ r. r.now))) c.loop-i.invariant c.in-None.is
