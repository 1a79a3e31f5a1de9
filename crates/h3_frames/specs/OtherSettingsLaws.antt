-- What holds of the settings that bytes begin with.
use Rattle.std.proofs.Common.{◌≡◌, ℕ, ◌<◌, ◌≤◌, ◌+◌, ◌-◌, Bool, true, false, ◌==◌, List, [], ◌++◌, length, take, drop, nat_lt, if◌then◌else◌, arith, ap, sym, subst, ◌∙◌, refl, inl, inr, ◌⊎◌, length-append, Option, Some, None}
use Rattle.std.proofs.lemmas.Bool.{cases_lt, eqb-true, le-ltb, lt-ltb}
use Rattle.std.proofs.lemmas.List.{take-append-le}
use Rattle.h3_coding.specs.Varint.{varint_at}
use Rattle.h3_coding.specs.VarintLaws.{cases_number, reads_more}
use Rattle.h3_frames.specs.FrameLaws.{at_no_kind, at_no_number, at_head}
use Rattle.h3_frames.specs.Fronts.{IsFinished}
use Rattle.h3_frames.specs.Frames.{Front, Unfinished, frame_by, frame_known, with_head}
use Rattle.h3_frames.specs.OtherSettings.{payload_of_length, payload_of_settings}
use Rattle.h3_frames.specs.declared.frame.kinds.FrameKinds.{FrameKinds}

-- by a whole head
of_head : (kind number : ℕ) (bytes mid behind : List ℕ) → varint_at bytes ≡ Some (kind, mid) → varint_at mid ≡ Some (number, behind)
    → payload_of_settings (varint_at bytes) ≡ (if kind == 4 then payload_of_length (Some (number, behind)) else [])
of_head kind number bytes mid behind e k = ap payload_of_settings e ∙ ap (λ o. if kind == 4 then payload_of_length o else []) k

-- a whole SETTINGS frame has its payload
all_there : (kinds : FrameKinds) (size number : ℕ) (behind : List ℕ) → IsFinished (with_head kinds size 4 number behind) → number ≤ length behind
all_there kinds size number behind there = elim (cases_lt (length behind) number) [
  | inl few ↦
      let waits : with_head kinds size 4 number behind ≡ Unfinished (size - length behind + number) =
      ap (λ b. if b then Unfinished (size - length behind + number) else frame_known kinds 4 (take number behind) (drop number behind)) (lt-ltb (length behind) number few) in
      absurd (subst IsFinished waits there)
  | inr enough ↦ omega (arith, enough)
]

-- **Where a frame is there, no byte behind it matters.**
pub settings_more : (kinds : FrameKinds) (bytes more : List ℕ) → IsFinished (frame_by kinds bytes) → payload_of_settings (varint_at (bytes ++ more)) ≡ payload_of_settings (varint_at bytes)
settings_more kinds bytes more there = elim (cases_number bytes) [
  | inl none ↦ absurd (subst IsFinished (at_no_kind kinds bytes none) there)
  | inr (kind, mid, e) ↦ by_number kind mid e (cases_number mid)
]
  where
    by_number : (kind : ℕ) (mid : List ℕ) → varint_at bytes ≡ Some (kind, mid) → (varint_at mid ≡ None) ⊎ ((v : ℕ) × (left : List ℕ) × (varint_at mid ≡ Some (v, left)))
        → payload_of_settings (varint_at (bytes ++ more)) ≡ payload_of_settings (varint_at bytes)
    by_number kind mid e (inl none) = absurd (subst IsFinished (at_no_number kinds kind bytes mid e none) there)
    by_number kind mid e (inr (number, behind, k)) =
        of_head kind number (bytes ++ more) (mid ++ more) (behind ++ more) (reads_more kind bytes mid more e) (reads_more number mid behind more k)
        ∙ by_type (kind == 4) refl ∙ sym (of_head kind number bytes mid behind e k)
      where
        same : kind ≡ 4 → payload_of_length (Some (number, behind ++ more)) ≡ payload_of_length (Some (number, behind))
        same is =
            let whole = all_there kinds (length bytes) number behind (subst (λ n. IsFinished (with_head kinds (length bytes) n number behind)) is (subst IsFinished (at_head kinds kind number bytes mid behind e k) there)) in
            ap (λ b. if b then [] else take number (behind ++ more)) (le-ltb (length (behind ++ more)) number (omega (arith, whole, length-append behind more)))
            ∙ take-append-le number behind more whole ∙ sym (ap (λ b. if b then [] else take number behind) (le-ltb (length behind) number whole))

        by_type : (b : Bool) → (kind == 4) ≡ b → (if b then payload_of_length (Some (number, behind ++ more)) else []) ≡ (if b then payload_of_length (Some (number, behind)) else [])
        by_type true is = same (eqb-true kind 4 is)
        by_type false is = refl
