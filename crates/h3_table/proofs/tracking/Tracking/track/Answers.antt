use Rattle.std.proofs.Common.{◌≡◌, ◌≢◌, ℕ, ◌+◌, ◌-◌, ◌<◌, ◌≤◌, List, length, refl, sym, ◌∙◌, ap, arith, set, Bool, true, false, if◌then◌else◌}
use Rattle.std.specs.Prelude.{◌==◌}
use Rattle.std.proofs.lemmas.Grind.{common_steps}
use Rattle.std.proofs.lemmas.List.{length-set}
use Rattle.h3_table.specs.declared.tracking.TrackedSection.{TrackedSection}
use Rattle.h3_table.specs.Tracking.{reference_counts, reference_count}
use Rattle.h3_table.specs.InOrder.{put_last}
use Rattle.h3_table.proofs.PutLast.{sum_by-put_last, length-put_last, All-put_last}
use Rattle.h3_table.proofs.ReferenceCounts.{held_set, reference_count-length, held_count}
use Rattle.h3_table.proofs.tracking.Tracking.track.Goals as goal

one_more : (number : ℕ) (ts : List TrackedSection) (t : TrackedSection) → t.oldest ≡ number → reference_count number (put_last (λ t. t.stream) t ts) ≡ reference_count number ts + 1
one_more number ts t is = omega (arith, sum_by-put_last (λ (t : TrackedSection). if t.oldest == number then 1 else 0) (λ t. t.stream) t ts, yes (t.oldest == number) refl)
  where
    yes : (b : Bool) → (t.oldest == number) ≡ b → ◌≡◌ {A = ℕ} (if t.oldest == number then 1 else 0) 1
    yes true e = rw e refl
    yes false e = absurd (grind (arith, common_steps))

none_more : (number : ℕ) (ts : List TrackedSection) (t : TrackedSection) → number ≢ t.oldest → reference_count number (put_last (λ t. t.stream) t ts) ≡ reference_count number ts
none_more number ts t ne = omega (arith, sum_by-put_last (λ (t : TrackedSection). if t.oldest == number then 1 else 0) (λ t. t.stream) t ts, no (t.oldest == number) refl)
  where
    no : (b : Bool) → (t.oldest == number) ≡ b → ◌≡◌ {A = ℕ} (if t.oldest == number then 1 else 0) 0
    no true e = absurd (grind (arith, common_steps))
    no false e = rw e refl

counted : (evicted : ℕ) (refs : List ℕ) (ts : List TrackedSection) (t : TrackedSection) (v : ℕ) → refs ≡ reference_counts (evicted + 1) (length refs) ts → evicted < t.oldest → t.oldest ≤ evicted + length refs
    → v ≡ reference_count t.oldest ts → set refs (t.oldest - evicted - 1) (v + 1) ≡ reference_counts (evicted + 1) (length refs) (put_last (λ t. t.stream) t ts)
counted evicted refs ts t v counts low high is =
    let same : evicted + 1 + (t.oldest - evicted - 1) ≡ t.oldest = omega (arith, low) in
    ap (λ ns. set ns (t.oldest - evicted - 1) (v + 1)) counts
    ∙ sym (held_set (evicted + 1) (length refs) (t.oldest - evicted - 1) (v + 1) ts (put_last (λ t. t.stream) t ts) (omega (arith, low, high))
    (ap (λ n. reference_count n (put_last (λ t. t.stream) t ts)) same ∙ one_more t.oldest ts t refl ∙ ap (λ k. k + 1) (sym is))
    (λ n ne. none_more n ts t (λ e. ne (e ∙ sym same))))

pub overflow_add-index_mut : goal.overflow_add-index_mut
overflow_add-index_mut c =
    let i = c.self.invariant in
    let evicted_is = ap (λ h. h.evicted) c.self.view_is in
    let made_is = ap (λ h. h.made) c.self.view_is in
    let is = held_count c.self.inside.evicted c.self.inside.references.items c.self.inside.sections c.args.section.oldest c.index_mut.result.now i.counts (omega (arith, evicted_is, c.requires.from)) (omega (arith, made_is, c.requires.to)) c.index_mut.ensures.value in
    omega (arith, is, reference_count-length c.args.section.oldest c.self.inside.sections, c.in_ok-add.ensures.few, ap length c.in_ok-add.ensures.ok, length-put_last (λ (t : TrackedSection). t.stream) c.args.section c.self.inside.sections)

pub invariant_of-self-2 : goal.invariant_of-self-2
invariant_of-self-2 c =
    let i = c.self.invariant in
    let evicted_is = ap (λ h. h.evicted) c.self.view_is in
    let made_is = ap (λ h. h.made) c.self.view_is in
    let low : c.self.inside.evicted < c.args.section.oldest = omega (arith, evicted_is, c.requires.from) in
    let high : c.args.section.oldest ≤ c.self.inside.evicted + length c.self.inside.references.items = omega (arith, made_is, c.requires.to) in
    let is = held_count c.self.inside.evicted c.self.inside.references.items c.self.inside.sections c.args.section.oldest c.index_mut.result.now i.counts low high c.index_mut.ensures.value in
    let sections = c.in_ok-add.ensures.ok in
    let same = length-set c.self.inside.references.items (c.args.section.oldest - c.self.inside.evicted - 1) (c.index_mut.result.now + 1) in
    record {
      counts = rw (sections, same) (counted c.self.inside.evicted c.self.inside.references.items c.self.inside.sections c.args.section c.index_mut.result.now i.counts low high is);
      there = rw (sections, same) (All-put_last _ (λ (t : TrackedSection). t.stream) c.args.section c.self.inside.sections (low, high) i.there);
      few = rw same i.few;
    }
