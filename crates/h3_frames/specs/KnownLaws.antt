-- What holds of the frames that bytes begin with, unknown ones left out.
use Rattle.std.proofs.Common.{◌≡◌, ℕ, ◌<◌, ◌≤◌, List, ◌++◌, length, arith, sym, ◌∙◌, ap, subst, refl, inl, inr, ◌⊎◌, zero, suc}
use Rattle.std.proofs.lemmas.List.{nil_from_length}
use Rattle.h3_frames.specs.Frames.{Front, Whole, Unknown, Refused, Unfinished, frame_by}
use Rattle.h3_frames.specs.FrameLaws.{frame_by-more, frame_by-shorter, frame_by-nil}
use Rattle.h3_frames.specs.Fronts.{IsFinished, with_more, IsShorter, IsKnown}
use Rattle.h3_frames.specs.Known.{past_unknown, skipped, known_by}
use Rattle.h3_frames.specs.declared.frame.kinds.FrameKinds.{FrameKinds}

pub cases_front : (x : Front) → ((kind : ℕ) × (rest : List ℕ) × (x ≡ Unknown kind rest)) ⊎ IsKnown x
cases_front (Unknown kind rest) = inl (kind, rest, refl)
cases_front (Whole f rest) = inr tt
cases_front (Refused e) = inr tt
cases_front (Unfinished k) = inr tt

past_known : (x : Front) (bytes : List ℕ) (go : List ℕ → List ℕ) → IsKnown x → past_unknown x bytes go ≡ bytes
past_known (Unknown kind rest) bytes go h = absurd h
past_known (Whole f rest) bytes go h = refl
past_known (Refused e) bytes go h = refl
past_known (Unfinished k) bytes go h = refl

pub unknown_shorter : (kinds : FrameKinds) (kind : ℕ) (bytes rest : List ℕ) → frame_by kinds bytes ≡ Unknown kind rest → length rest < length bytes
unknown_shorter kinds kind bytes rest e = subst (IsShorter (length bytes)) e (frame_by-shorter kinds bytes)

skipped_known : (kinds : FrameKinds) (n : ℕ) (bytes : List ℕ) → IsKnown (frame_by kinds bytes) → skipped kinds n bytes ≡ bytes
skipped_known kinds zero bytes h = refl
skipped_known kinds (suc n) bytes h = past_known (frame_by kinds bytes) bytes (skipped kinds n) h

skipped_step : (kinds : FrameKinds) (n m kind : ℕ) (bytes rest : List ℕ) → frame_by kinds bytes ≡ Unknown kind rest → length bytes ≤ m → ((j : ℕ) → length rest ≤ j → skipped kinds n rest ≡ skipped kinds j rest) → skipped kinds (suc n) bytes ≡ skipped kinds m bytes
skipped_step kinds n zero kind bytes rest e k same = absurd (omega (arith, unknown_shorter kinds kind bytes rest e))
skipped_step kinds n (suc m) kind bytes rest e k same =
    let less = unknown_shorter kinds kind bytes rest e in
    ap (λ x. past_unknown x bytes (skipped kinds n)) e ∙ same m (omega (arith, less)) ∙ sym (ap (λ x. past_unknown x bytes (skipped kinds m)) e)

nil_known : (kinds : FrameKinds) (bytes : List ℕ) → length bytes ≡ 0 → IsKnown (frame_by kinds bytes)
nil_known kinds bytes h = subst IsKnown (sym (ap (frame_by kinds) (nil_from_length bytes h) ∙ frame_by-nil kinds)) tt

-- no count of steps but the least matters
skipped_same : (kinds : FrameKinds) (n m : ℕ) (bytes : List ℕ) → length bytes ≤ n → length bytes ≤ m → skipped kinds n bytes ≡ skipped kinds m bytes
skipped_same kinds zero m bytes h k = sym (skipped_known kinds m bytes (nil_known kinds bytes (omega arith)))
skipped_same kinds (suc n) m bytes h k = elim (cases_front (frame_by kinds bytes)) [
  | inl u ↦ skipped_step kinds n m u.0 bytes u.1 u.2 k (λ j l. skipped_same kinds n j u.1 (omega (arith, unknown_shorter kinds u.0 bytes u.1 u.2)) l)
  | inr here ↦ skipped_known kinds (suc n) bytes here ∙ sym (skipped_known kinds m bytes here)
]

known_step : (kinds : FrameKinds) (n kind : ℕ) (bytes rest : List ℕ) → frame_by kinds bytes ≡ Unknown kind rest → length bytes ≤ n → skipped kinds n bytes ≡ skipped kinds (length rest) rest
known_step kinds zero kind bytes rest e h = absurd (omega (arith, unknown_shorter kinds kind bytes rest e))
known_step kinds (suc n) kind bytes rest e h =
    ap (λ x. past_unknown x bytes (skipped kinds n)) e ∙ skipped_same kinds n (length rest) rest (omega (arith, unknown_shorter kinds kind bytes rest e)) (omega arith)

-- an unknown frame is left out
pub known-unknown : (kinds : FrameKinds) (kind : ℕ) (bytes rest : List ℕ) → frame_by kinds bytes ≡ Unknown kind rest → known_by kinds bytes ≡ known_by kinds rest
unfolding known_by
known-unknown kinds kind bytes rest e = known_step kinds (length bytes) kind bytes rest e (omega arith)

-- any other is not
pub known-other : (kinds : FrameKinds) (bytes : List ℕ) → IsKnown (frame_by kinds bytes) → known_by kinds bytes ≡ bytes
unfolding known_by
known-other kinds bytes h = skipped_known kinds (length bytes) bytes h

-- what is left out is left out, whatever follows
known_more_within : (kinds : FrameKinds) (n : ℕ) (bytes more : List ℕ) → length bytes ≤ n → known_by kinds (bytes ++ more) ≡ known_by kinds (known_by kinds bytes ++ more)
known_more_within kinds zero bytes more h =
    sym (ap (λ l. known_by kinds (l ++ more)) (known-other kinds bytes (nil_known kinds bytes (omega arith))))
known_more_within kinds (suc n) bytes more h = elim (cases_front (frame_by kinds bytes)) [
  | inl u ↦
      let there = frame_by-more kinds bytes more (subst IsFinished (sym u.2) tt) ∙ ap (λ x. with_more x more) u.2 in
      known-unknown kinds u.0 (bytes ++ more) (u.1 ++ more) there ∙ known_more_within kinds n u.1 more (omega (arith, unknown_shorter kinds u.0 bytes u.1 u.2)) ∙ sym (ap (λ l. known_by kinds (l ++ more)) (known-unknown kinds u.0 bytes u.1 u.2))
  | inr here ↦ sym (ap (λ l. known_by kinds (l ++ more)) (known-other kinds bytes here))
]

pub known-more : (kinds : FrameKinds) (bytes more : List ℕ) → known_by kinds (bytes ++ more) ≡ known_by kinds (known_by kinds bytes ++ more)
known-more kinds bytes more = known_more_within kinds (length bytes) bytes more (omega arith)

-- the first frame that is left is no unknown one
known_is_within : (kinds : FrameKinds) (n : ℕ) (bytes : List ℕ) → length bytes ≤ n → IsKnown (frame_by kinds (known_by kinds bytes))
known_is_within kinds zero bytes h = let nil = nil_known kinds bytes (omega arith) in subst (λ l. IsKnown (frame_by kinds l)) (sym (known-other kinds bytes nil)) nil
known_is_within kinds (suc n) bytes h = elim (cases_front (frame_by kinds bytes)) [
  | inl u ↦ subst (λ l. IsKnown (frame_by kinds l)) (sym (known-unknown kinds u.0 bytes u.1 u.2)) (known_is_within kinds n u.1 (omega (arith, unknown_shorter kinds u.0 bytes u.1 u.2)))
  | inr here ↦ subst (λ l. IsKnown (frame_by kinds l)) (sym (known-other kinds bytes here)) here
]

pub known_is : (kinds : FrameKinds) (bytes : List ℕ) → IsKnown (frame_by kinds (known_by kinds bytes))
known_is kinds bytes = known_is_within kinds (length bytes) bytes (omega arith)

pub known_known : (kinds : FrameKinds) (bytes : List ℕ) → known_by kinds (known_by kinds bytes) ≡ known_by kinds bytes
known_known kinds bytes = known-other kinds (known_by kinds bytes) (known_is kinds bytes)

-- nothing is added
known_length_within : (kinds : FrameKinds) (n : ℕ) (bytes : List ℕ) → length bytes ≤ n → length (known_by kinds bytes) ≤ length bytes
known_length_within kinds zero bytes h = omega (arith, ap length (known-other kinds bytes (nil_known kinds bytes (omega arith))))
known_length_within kinds (suc n) bytes h = elim (cases_front (frame_by kinds bytes)) [
  | inl u ↦
      let less = unknown_shorter kinds u.0 bytes u.1 u.2 in
      omega (arith, ap length (known-unknown kinds u.0 bytes u.1 u.2), known_length_within kinds n u.1 (omega (arith, less)), less)
  | inr here ↦ omega (arith, ap length (known-other kinds bytes here))
]

pub known-length : (kinds : FrameKinds) (bytes : List ℕ) → length (known_by kinds bytes) ≤ length bytes
known-length kinds bytes = known_length_within kinds (length bytes) bytes (omega arith)
