use Rattle.std.proofs.Common.{◌≡◌, ℕ, ◌+◌, ◌-◌, ◌≤◌, List, length, drop, sym, ◌∙◌, ap, arith, length-drop}
use Rattle.h3_table.specs.declared.tracking.TrackedSection.{TrackedSection}
use Rattle.h3_table.specs.Tracking.{reference_counts}
use Rattle.h3_table.proofs.ReferenceCounts.{drop-reference_counts, above_free, there_later}
use Rattle.h3_table.proofs.tracking.Tracking.drop_to.Goals as goal

counted : (evicted number : ℕ) (refs left : List ℕ) (ts : List TrackedSection) → refs ≡ reference_counts (evicted + 1) (length refs) ts → left ≡ drop (number - evicted) refs
    → evicted ≤ number → number ≤ evicted + length refs → left ≡ reference_counts (number + 1) (length left) ts
counted evicted number refs left ts counts is low high =
    let first : evicted + 1 + (number - evicted) ≡ number + 1 = omega (arith, low) in
    let len : length left ≡ length refs - (number - evicted) = ap length is ∙ length-drop (number - evicted) refs in
    is ∙ ap (drop (number - evicted)) counts ∙ drop-reference_counts (number - evicted) (evicted + 1) (length refs) ts (omega (arith, low, high))
    ∙ ap (λ n. reference_counts n (length refs - (number - evicted)) ts) first ∙ ap (λ n. reference_counts (number + 1) n ts) (sym len)

pub invariant_of-self : goal.invariant_of-self
invariant_of-self c =
    let i = c.self.invariant in
    let evicted_is = ap (λ h. h.evicted) c.self.view_is in
    let made_is = ap (λ h. h.made) c.self.view_is in
    let free = rw (← c.self.view_is) at c.requires.free in
    let len : length c.drop_front.new.items.items ≡ length c.self.inside.references.items - (c.args.number - c.self.inside.evicted) =
    ap length c.drop_front.ensures ∙ length-drop (c.args.number - c.self.inside.evicted) c.self.inside.references.items in
    record {
      counts = counted c.self.inside.evicted c.args.number c.self.inside.references.items _ c.self.inside.sections i.counts c.drop_front.ensures (omega (arith, evicted_is, c.requires.from)) (omega (arith, made_is, c.requires.to));
      there = there_later c.args.number _ _ c.self.inside.sections (omega (arith, len, evicted_is, made_is, c.requires.from, c.requires.to)) (above_free _ _ c.args.number c.self.inside.sections free i.there);
      few = omega (arith, len, i.few, evicted_is, made_is, c.requires.from, c.requires.to);
    }
