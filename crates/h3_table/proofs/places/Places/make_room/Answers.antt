use Rattle.std.proofs.Common.{◌≡◌, ◌<◌, ℕ, Bool, true, false, List, ◌++◌, ◌-◌, length, refl, ◌∙◌, ap, arith, if◌then◌else◌, slice_range, take}
use Rattle.std.proofs.Math.Seq.{take-length}
use Rattle.std.specs.Prelude.{is_ok}
use Rattle.h3_table.specs.declared.tracking.TrackedSection.{TrackedSection}
use Rattle.h3_table.specs.Places.{placed}
use Rattle.h3_table.specs.ByStream.{HaveSame}
use Rattle.h3_table.proofs.Placed.{doubled}
use Rattle.h3_table.proofs.places.Places.make_room.Goals as goal

either : (b : Bool) (ts us : List TrackedSection) (n : ℕ) → n ≡ length ts → 0 < length ts → us ≡ (if b then ts ++ slice_range ts 0 n else ts) → HaveSame (placed ts) (placed us)
either true ts us n len above is =
    let all : n - 0 ≡ length ts = omega (arith, len) in
    let twice : us ≡ ts ++ ts = is ∙ ap (λ vs. ts ++ vs) (ap (λ m. take m ts) all ∙ take-length ts) in
    rw twice (doubled ts above)
either false ts us n len above is = rw is (λ k. refl)

pub returns-clause-same : goal.returns-clause-same
returns-clause-same c =
    let ts = c.self.inside.slots.items in
    let len : c.len-len.result ≡ length ts = c.len-len.ensures ∙ c.self.inside.slots.ok.0 in
    let some = c.if-len-eq0.false in
    rw (← c.self.view_is) (either (is_ok c.extend_from_within.result) ts c.extend_from_within.new.self.items _ (c.self.inside.slots.ok.0) (omega (arith, len, some)) c.extend_from_within.ensures.items)
