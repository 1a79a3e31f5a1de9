use Rattle.std.proofs.Common.{◌≡◌, ℕ, ◌+◌, ◌<◌, ◌≤◌, List, [], ◌∷◌, ◌++◌, length, sym, ◌∙◌, ap, arith, length-append}
use Rattle.std.specs.List.{AllByRecursion}
use Rattle.h3_table.specs.declared.tracking.TrackedSection.{TrackedSection}
use Rattle.h3_table.specs.Tracking.{reference_counts, reference_count}
use Rattle.h3_table.proofs.ReferenceCounts.{reference_counts-last, none_holds, there_later}
use Rattle.h3_table.proofs.tracking.Tracking.add_entry.Goals as goal

longer : (refs pushed : List ℕ) → pushed ≡ refs ++ 0 ∷ [] → length pushed ≡ length refs + 1
longer refs pushed is = ap length is ∙ omega (arith, length-append refs (0 ∷ []))

counted : (evicted : ℕ) (refs pushed : List ℕ) (ts : List TrackedSection) → refs ≡ reference_counts (evicted + 1) (length refs) ts → pushed ≡ refs ++ 0 ∷ []
    → AllByRecursion (λ s. s.oldest < evicted + 1 + length refs) ts → pushed ≡ reference_counts (evicted + 1) (length pushed) ts
counted evicted refs pushed ts counts is below =
    is ∙ ap (λ ns. ns ++ 0 ∷ []) counts ∙ ap (λ n. reference_counts (evicted + 1) (length refs) ts ++ n ∷ []) (sym (none_holds (evicted + 1 + length refs) ts below))
    ∙ sym (reference_counts-last (evicted + 1) (length refs) ts) ∙ ap (λ n. reference_counts (evicted + 1) n ts) (sym (longer refs pushed is))

below : (evicted count : ℕ) (ts : List TrackedSection) → AllByRecursion (λ s. (evicted < s.oldest) × (s.oldest ≤ evicted + count)) ts → AllByRecursion (λ s. s.oldest < evicted + 1 + count) ts
below evicted count [] h = tt
below evicted count (t ∷ ts) h = (omega (arith, h.0.1), below evicted count ts h.1)

pub invariant_of-self-2 : goal.invariant_of-self-2
invariant_of-self-2 c =
    let i = c.self.invariant in
    let is = c.push_back_reserved.ensures.items ∙ ap (λ ns. ns ++ 0 ∷ []) c.in_ok-reserve_number.ensures.items in
    let more = longer c.self.inside.references.items _ is in
    record {
      counts = counted c.self.inside.evicted c.self.inside.references.items _ c.self.inside.sections i.counts is (below _ _ _ i.there);
      there = there_later c.self.inside.evicted _ _ c.self.inside.sections (omega (arith, more)) i.there;
      few = omega (arith, more, c.requires, ap (λ h. h.made) c.self.view_is);
    }

pub returns-clause-unnamed : goal.returns-clause-unnamed
returns-clause-unnamed c =
    let i = c.self.invariant in
    let next : c.self.inside.evicted + 1 + length c.self.inside.references.items ≡ c.self.inside.evicted + length c.self.inside.references.items + 1 = omega arith in
    rw (← c.self.view_is) (ap (λ n. reference_count n c.self.inside.sections) (sym next) ∙ none_holds _ c.self.inside.sections (below _ _ _ i.there))
