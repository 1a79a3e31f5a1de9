-- What is skipped between frames, step by step.
use Rattle.std.proofs.Common.{◌≡◌, ℕ, zero, suc, ◌<◌, ◌≤◌, Bool, true, false, ◌&&◌, if◌then◌else◌, List, [], length, refl, ap, sym, ◌∙◌, subst, arith}
use Rattle.std.proofs.lemmas.List.{nil_from_length}
use Rattle.h3_frames.specs.Frames.{Front, Whole, Unknown, Refused, Unfinished, frame_by}
use Rattle.h3_frames.specs.FrameLaws.{frame_by-nil, frame_by-shorter}
use Rattle.h3_frames.specs.Fronts.{IsShorter, IsKnown}
use Rattle.h3_frames.specs.Known.{known_by}
use Rattle.h3_frames.specs.KnownLaws.{known-other, known-length}
use Rattle.h3_frames.specs.declared.proto.frame.PayloadLen.{PayloadLen}
use Rattle.h3_frames.specs.declared.proto.frame.Frame.{Frame}
use Rattle.h3_connection.specs.Skipping.{is_empty_data, skip_front, skipped_within, skipped, IsNotEmpty}
use Rattle.h3_frames.specs.declared.frame.kinds.FrameKinds.{FrameKinds}

-- what follows a known frame is shorter
pub rest_shorter : (kinds : FrameKinds) (bytes rest : List ℕ) (f : Frame PayloadLen) → frame_by kinds (known_by kinds bytes) ≡ Whole f rest → length rest < length bytes
rest_shorter kinds bytes rest f e =
    let less : IsShorter (length (known_by kinds bytes)) (Whole f rest) = subst (IsShorter (length (known_by kinds bytes))) e (frame_by-shorter kinds (known_by kinds bytes)) in
    omega (arith, less, known-length kinds bytes)

pub known-nil : (kinds : FrameKinds) → known_by kinds [] ≡ []
known-nil kinds = known-other kinds [] (subst IsKnown (sym (frame_by-nil kinds)) tt)

if_same : (b : Bool) (x y z : List ℕ) → x ≡ y → (if b then x else z) ≡ (if b then y else z)
if_same true x y z e = e
if_same false x y z e = refl

front_same : (go other : List ℕ → List ℕ) (in_body : Bool) (bytes : List ℕ) (x : Front) → ((f : Frame PayloadLen) (rest : List ℕ) → x ≡ Whole f rest → go rest ≡ other rest) → skip_front go in_body bytes x ≡ skip_front other in_body bytes x
front_same go other in_body bytes (Whole f rest) h = if_same (in_body && is_empty_data f) (go rest) (other rest) bytes (h f rest refl)
front_same go other in_body bytes (Unknown kind rest) h = refl
front_same go other in_body bytes (Unfinished least) h = refl
front_same go other in_body bytes (Refused e) h = refl

nothing_left : (kinds : FrameKinds) (most : ℕ) (in_body : Bool) (bytes : List ℕ) → bytes ≡ [] → skipped_within kinds in_body most bytes ≡ bytes
nothing_left kinds zero in_body bytes e = refl
nothing_left kinds (suc most) in_body bytes e =
    ap (λ l. skip_front (skipped_within kinds in_body most) in_body l (frame_by kinds l)) (ap (known_by kinds) e ∙ known-nil kinds)
    ∙ ap (λ x. skip_front (skipped_within kinds in_body most) in_body [] x) (frame_by-nil kinds) ∙ sym e

-- no count of steps but the least matters
within_same : (kinds : FrameKinds) (n m : ℕ) (in_body : Bool) (bytes : List ℕ) → length bytes ≤ n → length bytes ≤ m → skipped_within kinds in_body n bytes ≡ skipped_within kinds in_body m bytes
within_same kinds zero m in_body bytes h k = sym (nothing_left kinds m in_body bytes (nil_from_length bytes (omega (arith, h))))
within_same kinds (suc n) zero in_body bytes h k = nothing_left kinds (suc n) in_body bytes (nil_from_length bytes (omega (arith, k)))
within_same kinds (suc n) (suc m) in_body bytes h k =
    front_same (skipped_within kinds in_body n) (skipped_within kinds in_body m) in_body (known_by kinds bytes) (frame_by kinds (known_by kinds bytes))
    (λ f rest e. let less = rest_shorter kinds bytes rest f e in within_same kinds n m in_body rest (omega (arith, less, h)) (omega (arith, less, k)))

pub skipped_step : (kinds : FrameKinds) (in_body : Bool) (bytes : List ℕ) → skipped kinds in_body bytes ≡ skip_front (skipped kinds in_body) in_body (known_by kinds bytes) (frame_by kinds (known_by kinds bytes))
unfolding skipped
skipped_step kinds in_body bytes =
    within_same kinds (length bytes) (suc (length bytes)) in_body bytes (omega arith) (omega arith)
    ∙ front_same (skipped_within kinds in_body (length bytes)) (λ rest. skipped_within kinds in_body (length rest) rest) in_body (known_by kinds bytes) (frame_by kinds (known_by kinds bytes))
    (λ f rest e. let less = rest_shorter kinds bytes rest f e in within_same kinds (length bytes) (length rest) in_body rest (omega (arith, less)) (omega arith))

if_short : (size : ℕ) (b : Bool) (x z : List ℕ) → length x ≤ size → length z ≤ size → length (if b then x else z) ≤ size
if_short size true x z h k = h
if_short size false x z h k = k

front_short : (kinds : FrameKinds) (go : List ℕ → List ℕ) (in_body : Bool) (bytes : List ℕ) (x : Front) → ((rest : List ℕ) → length (go rest) ≤ length rest) → frame_by kinds (known_by kinds bytes) ≡ x
    → length (skip_front go in_body (known_by kinds bytes) x) ≤ length bytes
front_short kinds go in_body bytes (Whole f rest) less e = if_short (length bytes) (in_body && is_empty_data f) (go rest) (known_by kinds bytes) (omega (arith, less rest, rest_shorter kinds bytes rest f e)) (known-length kinds bytes)
front_short kinds go in_body bytes (Unknown kind rest) less e = known-length kinds bytes
front_short kinds go in_body bytes (Unfinished least) less e = known-length kinds bytes
front_short kinds go in_body bytes (Refused why) less e = known-length kinds bytes

skipped_short : (kinds : FrameKinds) (most : ℕ) (in_body : Bool) (bytes : List ℕ) → length (skipped_within kinds in_body most bytes) ≤ length bytes
skipped_short kinds zero in_body bytes = omega arith
skipped_short kinds (suc most) in_body bytes = front_short kinds (skipped_within kinds in_body most) in_body bytes (frame_by kinds (known_by kinds bytes)) (λ rest. skipped_short kinds most in_body rest) refl

pub skipped-length : (kinds : FrameKinds) (in_body : Bool) (bytes : List ℕ) → length (skipped kinds in_body bytes) ≤ length bytes
unfolding skipped
skipped-length kinds in_body bytes = skipped_short kinds (length bytes) in_body bytes

step_by : (kinds : FrameKinds) (in_body : Bool) (bytes : List ℕ) (x : Front) → frame_by kinds (known_by kinds bytes) ≡ x → skipped kinds in_body bytes ≡ skip_front (skipped kinds in_body) in_body (known_by kinds bytes) x
step_by kinds in_body bytes x e = skipped_step kinds in_body bytes ∙ ap (λ y. skip_front (skipped kinds in_body) in_body (known_by kinds bytes) y) e

whole_is : (in_body : Bool) (f g : Frame PayloadLen) (left rest : List ℕ) → Whole g left ≡ Whole f rest → IsNotEmpty in_body g → IsNotEmpty in_body f
whole_is in_body f g left rest same some = let e : g ≡ f = cc in subst (λ x. IsNotEmpty in_body x) e some

by_test : (kinds : FrameKinds) (in_body : Bool) (bytes rest left : List ℕ) (f g : Frame PayloadLen) (b : Bool) → (in_body && is_empty_data g) ≡ b → frame_by kinds (known_by kinds bytes) ≡ Whole g left
    → frame_by kinds (skipped kinds in_body bytes) ≡ Whole f rest → (frame_by kinds (skipped kinds in_body left) ≡ Whole f rest → IsNotEmpty in_body f) → IsNotEmpty in_body f
by_test kinds in_body bytes rest left f g true t here e again =
    again (ap (frame_by kinds) (sym (step_by kinds in_body bytes (Whole g left) here ∙ ap (λ b. if b then skipped kinds in_body left else known_by kinds bytes) t)) ∙ e)
by_test kinds in_body bytes rest left f g false t here e again =
    whole_is in_body f g left rest (sym here ∙ ap (frame_by kinds) (sym (step_by kinds in_body bytes (Whole g left) here ∙ ap (λ b. if b then skipped kinds in_body left else known_by kinds bytes) t)) ∙ e) t

by_front : (kinds : FrameKinds) (in_body : Bool) (bytes rest : List ℕ) (f : Frame PayloadLen) (x : Front) → frame_by kinds (known_by kinds bytes) ≡ x → frame_by kinds (skipped kinds in_body bytes) ≡ Whole f rest
    → ((left : List ℕ) → length left < length bytes → frame_by kinds (skipped kinds in_body left) ≡ Whole f rest → IsNotEmpty in_body f) → IsNotEmpty in_body f
by_front kinds in_body bytes rest f (Whole g left) here e again = by_test kinds in_body bytes rest left f g (in_body && is_empty_data g) refl here e (again left (rest_shorter kinds bytes left g here))
by_front kinds in_body bytes rest f (Unknown kind left) here e again = let wrong : Unknown kind left ≡ Whole f rest = sym here ∙ ap (frame_by kinds) (sym (step_by kinds in_body bytes (Unknown kind left) here)) ∙ e in absurd (cc)
by_front kinds in_body bytes rest f (Unfinished least) here e again = let wrong : Unfinished least ≡ Whole f rest = sym here ∙ ap (frame_by kinds) (sym (step_by kinds in_body bytes (Unfinished least) here)) ∙ e in absurd (cc)
by_front kinds in_body bytes rest f (Refused why) here e again = let wrong : Refused why ≡ Whole f rest = sym here ∙ ap (frame_by kinds) (sym (step_by kinds in_body bytes (Refused why) here)) ∙ e in absurd (cc)

not_empty_within : (kinds : FrameKinds) (most : ℕ) (in_body : Bool) (bytes rest : List ℕ) (f : Frame PayloadLen) → length bytes ≤ most → frame_by kinds (skipped kinds in_body bytes) ≡ Whole f rest → IsNotEmpty in_body f
not_empty_within kinds zero in_body bytes rest f few e = by_front kinds in_body bytes rest f (frame_by kinds (known_by kinds bytes)) refl e (λ left less there. absurd (omega (arith, few, less)))
not_empty_within kinds (suc most) in_body bytes rest f few e =
    by_front kinds in_body bytes rest f (frame_by kinds (known_by kinds bytes)) refl e (λ left less there. not_empty_within kinds most in_body left rest f (omega (arith, few, less)) there)

pub found_not_empty : (kinds : FrameKinds) (in_body : Bool) (bytes rest : List ℕ) (f : Frame PayloadLen) → frame_by kinds (skipped kinds in_body bytes) ≡ Whole f rest → (in_body && is_empty_data f) ≡ false
found_not_empty kinds in_body bytes rest f e = not_empty_within kinds (length bytes) in_body bytes rest f (omega arith) e
