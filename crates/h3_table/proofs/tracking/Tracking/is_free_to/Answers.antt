use Rattle.std.proofs.Common.{◌≡◌, ◌<◌, ◌≤◌, ◌+◌, ℕ, Bool, true, false, nat_le, List, length, refl, sym, ◌∙◌, ap, arith, get_or}
use Rattle.std.proofs.lemmas.Grind.{common_steps}
use Rattle.h3_table.specs.declared.tracking.TrackedSection.{TrackedSection}
use Rattle.h3_table.specs.Tracking.{reference_count, reference_counts}
use Rattle.h3_table.proofs.ReferenceCounts.{held_at, stands_in_way, is_free, above_evicted}
use Rattle.h3_table.proofs.tracking.Tracking.is_free_to.Invariants.{Invariant}
use Rattle.h3_table.proofs.tracking.Tracking.is_free_to.Goals as goal

-- the count that was read
read : (evicted : ℕ) (refs : List ℕ) (ts : List TrackedSection) (place v : ℕ) → refs ≡ reference_counts (evicted + 1) (length refs) ts → place < length refs → v ≡ get_or refs place v
    → reference_count (evicted + place + 1) ts ≡ v
read evicted refs ts place v counts lt is =
    let same : evicted + 1 + place ≡ evicted + place + 1 = omega arith in
    ap (λ n. reference_count n ts) (sym same) ∙ sym (held_at (evicted + 1) (length refs) ts place v lt) ∙ ap (λ ns. get_or ns place v) (sym counts) ∙ sym is

next : (evicted count place : ℕ) (ts : List TrackedSection) → Invariant evicted count place ts → place < count → reference_count (evicted + place + 1) ts ≡ 0 → Invariant evicted count (place + 1) ts
next evicted count place ts i lt zero_is = record { within = omega (arith, lt); none = λ n low high. by_order n (nat_le n (evicted + place)) refl low high }
  where
    by_order : (n : ℕ) (b : Bool) → nat_le n (evicted + place) ≡ b → evicted < n → n ≤ evicted + (place + 1) → reference_count n ts ≡ 0
    by_order n true e low high = i.none n low (grind (arith, common_steps))
    by_order n false e low high =
        let far : evicted + place < n = grind (arith, common_steps) in
        let same : n ≡ evicted + place + 1 = omega (arith, far, high) in
        ap (λ k. reference_count k ts) same ∙ zero_is

pub returns-then-index-ne0 : goal.returns-then-index-ne0
returns-then-index-ne0 c =
    let i = c.self.invariant in
    let evicted_is = ap (λ h. h.evicted) c.self.view_is in
    let made_is = ap (λ h. h.made) c.self.view_is in
    let v = read c.self.inside.evicted c.self.inside.references.items c.self.inside.sections c.loop-place.place c.index.result.now i.counts (omega (arith, evicted_is, made_is, c.requires.to)) c.index.ensures in
    rw (← c.self.view_is) (sym (stands_in_way (c.self.inside.evicted + c.loop-place.place + 1) c.args.number c.self.inside.sections (omega arith) (λ z. c.if-index-ne0.true (sym v ∙ z))))

pub loop-place-preserved : goal.loop-place-preserved
loop-place-preserved c =
    let i = c.self.invariant in
    let evicted_is = ap (λ h. h.evicted) c.self.view_is in
    let made_is = ap (λ h. h.made) c.self.view_is in
    let v = read c.self.inside.evicted c.self.inside.references.items c.self.inside.sections c.loop-place.place c.index.result.now i.counts (omega (arith, evicted_is, made_is, c.requires.to)) c.index.ensures in
    next c.self.inside.evicted _ c.loop-place.place c.self.inside.sections c.loop-place.invariant c.loop-place-test.true (v ∙ c.if-index-ne0.false)

pub returns : goal.returns
returns c =
    let i = c.self.invariant in
    let evicted_is = ap (λ h. h.evicted) c.self.view_is in
    rw (← c.self.view_is) (sym (is_free c.self.inside.evicted c.args.number c.self.inside.sections (above_evicted _ _ _ i.there)
    (λ n low high. c.loop-place.invariant.none n low (omega arith))))
