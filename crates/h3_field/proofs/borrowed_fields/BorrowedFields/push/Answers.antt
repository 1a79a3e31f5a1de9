use Rattle.std.proofs.Common.{◌≡◌, ◌≤◌, ◌+◌, ℕ, ap, sym, ◌∙◌, arith, length, length-drop, drop, take}
use Rattle.std.proofs.lemmas.List.{drop-drop}
use Rattle.h3_field.specs.BorrowedFields.{with_field}
use Rattle.h3_field.specs.FieldBlock.{fields_at}
use Rattle.h3_field.proofs.BorrowedBytes.{block_taken, fields_taken}
use Rattle.h3_field.proofs.borrowed_fields.BorrowedFields.push.Goals as goal

pub invariant_of-self-2 : goal.invariant_of-self-2
invariant_of-self-2 c =
    let fits : c.args.name + c.args.value ≤ length (drop c.self.inside.end c.self.inside.bytes.now) = rw (ap (λ b. b.rest) c.self.view_is) c.requires in (
      (let left = simp length-drop at fits in omega (arith, left, c.self.invariant.0)),
      rw c.in_ok-put_place.ensures.ok (block_taken _ _ _ _ _ _ c.self.invariant.0 fits c.self.invariant.1),
    )

pub returns-clause-ok : goal.returns-clause-ok
returns-clause-ok c =
    let fits : c.args.name + c.args.value ≤ length (drop c.self.inside.end c.self.inside.bytes.now) = rw (ap (λ b. b.rest) c.self.view_is) c.requires in
    let end = c.self.inside.end + c.args.name + c.args.value in
    let fields = (λ i. fields_at (take end c.self.inside.bytes.now) (c.in_ok-put_place.ensures.ok i)) ∙ fields_taken _ _ _ _ _ _ c.self.invariant.0 fits c.self.invariant.1 in
    let sum : c.self.inside.end + (c.args.name + c.args.value) ≡ end = omega arith in
    let rest = ap (λ (n : ℕ). drop n c.self.inside.bytes.now) (sym sum) ∙ sym (drop-drop (c.args.name + c.args.value) c.self.inside.end c.self.inside.bytes.now) in
    (λ i. record { fields = fields i; rest = rest i }) ∙ ap (with_field c.args.name c.args.value c.args.never_indexed) c.self.view_is
