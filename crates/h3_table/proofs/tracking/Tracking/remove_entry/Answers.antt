use Rattle.std.proofs.Common.{◌≡◌, ℕ, ◌+◌, ◌-◌, ◌<◌, List, length, take, sym, ◌∙◌, ap, arith}
use Rattle.std.proofs.lemmas.List.{length-take}
use Rattle.h3_table.specs.declared.tracking.TrackedSection.{TrackedSection}
use Rattle.h3_table.specs.Tracking.{reference_counts}
use Rattle.h3_table.proofs.ReferenceCounts.{reference_counts-front, there_before, there_later}
use Rattle.h3_table.proofs.tracking.Tracking.remove_entry.Goals as goal

counted : (evicted : ℕ) (refs left : List ℕ) (ts : List TrackedSection) → refs ≡ reference_counts (evicted + 1) (length refs) ts → left ≡ take (length refs - 1) refs → 0 < length refs
    → length left ≡ length refs - 1 → left ≡ reference_counts (evicted + 1) (length left) ts
counted evicted refs left ts counts is above len =
    is ∙ ap (take (length refs - 1)) counts ∙ reference_counts-front (evicted + 1) (length refs) ts above ∙ ap (λ n. reference_counts (evicted + 1) n ts) (sym len)

pub invariant_of-self : goal.invariant_of-self
invariant_of-self c =
    let i = c.self.invariant in
    let evicted_is = ap (λ h. h.evicted) c.self.view_is in
    let made_is = ap (λ h. h.made) c.self.view_is in
    let unnamed = rw (← c.self.view_is) at c.requires.unnamed in
    let above : 0 < length c.self.inside.references.items = omega (arith, evicted_is, made_is, c.requires.some) in
    let front : c.pop_back.new.self.items ≡ take (length c.self.inside.references.items - 1) c.self.inside.references.items =
    c.pop_back.ensures.rest ∙ ap (λ n. take (n - 1) c.self.inside.references.items) c.self.inside.references.ok.0 in
    let len : length c.pop_back.new.self.items ≡ length c.self.inside.references.items - 1 = ap length front ∙ omega (arith, length-take (length c.self.inside.references.items - 1) c.self.inside.references.items) in
    record {
      counts = counted c.self.inside.evicted c.self.inside.references.items _ c.self.inside.sections i.counts front above len;
      there = there_later c.self.inside.evicted _ _ c.self.inside.sections (omega (arith, len, above)) (there_before c.self.inside.evicted _ c.self.inside.sections (omega (arith, above)) unnamed i.there);
      few = omega (arith, len, i.few);
    }
