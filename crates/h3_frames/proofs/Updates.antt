-- PRIORITY_UPDATE frames at the front of bytes.
use Rattle.std.proofs.Common.{◌≡◌, ℕ, ◌+◌, ◌-◌, ◌<◌, ◌≤◌, ◌==◌, ◌||◌, ◌&&◌, Bool, true, false, not, List, [], ◌∷◌, length, take, drop, refl, sym, subst, ◌∙◌, ap, inl, inr, Some, None}
use Rattle.std.proofs.lemmas.Bool.{eqb-true, lt-ltb, le-ltb}
use Rattle.h3_coding.specs.Varint.{varint_at}
use Rattle.h3_coding.specs.VarintLaws.{cases_number}
use Rattle.h3_frames.specs.declared.frame.kinds.FrameKinds.{FrameKinds}
use Rattle.h3_frames.specs.FrameLaws.{at_no_kind, at_no_number, at_head, no_update}
use Rattle.h3_frames.specs.Frames.{Unfinished, frame_by, is_session, is_update, update_frame}
use Rattle.h3_frames.specs.Update.{is_update_type}

-- An update is no session, and no DATA.
none_other : (P : ℕ → Type 0) (kind : ℕ) → is_update_type kind ≡ true → P 0xf0700 → P 0xf0701 → P kind
none_other P kind is request push = by_test (kind == 0xf0700) refl is
  where
    by_test : (b : Bool) → (kind == 0xf0700) ≡ b → (b || (kind == 0xf0701)) ≡ true → P kind
    by_test true e h = subst P (sym (eqb-true kind 0xf0700 e)) request
    by_test false e h = subst P (sym (eqb-true kind 0xf0701 h)) push

no_session : (kinds : FrameKinds) (kind : ℕ) → is_update_type kind ≡ true → is_session kinds kind ≡ false
no_session kinds kind is = none_other (λ n. is_session kinds n ≡ false) kind is refl refl

no_data : (kind : ℕ) → is_update_type kind ≡ true → (kind == 0) ≡ false
no_data kind is = none_other (λ n. (n == 0) ≡ false) kind is refl refl

pub is_on : (b : Bool) → not b ≡ false → b ≡ true
is_on true e = refl
is_on false e = sym e

chosen : (kinds : FrameKinds) (kind : ℕ) → kinds.updates ≡ true → is_update_type kind ≡ true → is_update kinds kind ≡ true
chosen kinds kind on is = ap (λ b. b && is_update_type kind) on ∙ is

-- Less than one,
pub update_waits : (kinds : FrameKinds) (kind number : ℕ) (bytes mid behind : List ℕ) → is_update_type kind ≡ true → varint_at bytes ≡ Some (kind, mid) → varint_at mid ≡ Some (number, behind) → length behind < number
    → frame_by kinds bytes ≡ Unfinished (length bytes - length behind + number)
update_waits kinds kind number bytes mid behind is e k short =
    at_head kinds kind number bytes mid behind e k ∙ rw (no_session kinds kind is, no_data kind is, lt-ltb (length behind) number short) refl

-- and a whole one.
pub update_there : (kinds : FrameKinds) (kind number : ℕ) (bytes mid behind : List ℕ) → kinds.updates ≡ true → is_update_type kind ≡ true → varint_at bytes ≡ Some (kind, mid) → varint_at mid ≡ Some (number, behind) → number ≤ length behind
    → frame_by kinds bytes ≡ update_frame kind (varint_at (take number behind)) (drop number behind)
update_there kinds kind number bytes mid behind on is e k there =
    at_head kinds kind number bytes mid behind e k ∙ rw (no_session kinds kind is, no_data kind is, le-ltb (length behind) number there, chosen kinds kind on is) refl

-- Where updates are not known, or none begins there, the front is read as if they were not known.
pub without_updates : (kinds : FrameKinds) (bytes : List ℕ) → kinds.updates ≡ false → frame_by kinds bytes ≡ frame_by (record kinds { updates = false }) bytes
without_updates kinds bytes off = ap (λ b. frame_by (record { sessions = kinds.sessions; updates = b }) bytes) off

pub without_kind : (kinds : FrameKinds) (bytes : List ℕ) → varint_at bytes ≡ None → frame_by kinds bytes ≡ frame_by (record kinds { updates = false }) bytes
without_kind kinds bytes none = at_no_kind kinds bytes none ∙ sym (at_no_kind (record kinds { updates = false }) bytes none)

pub without_number : (kinds : FrameKinds) (kind : ℕ) (bytes mid : List ℕ) → varint_at bytes ≡ Some (kind, mid) → varint_at mid ≡ None → frame_by kinds bytes ≡ frame_by (record kinds { updates = false }) bytes
without_number kinds kind bytes mid e none = at_no_number kinds kind bytes mid e none ∙ sym (at_no_number (record kinds { updates = false }) kind bytes mid e none)

pub other_type : (kinds : FrameKinds) (kind : ℕ) (bytes mid : List ℕ) → varint_at bytes ≡ Some (kind, mid) → is_update_type kind ≡ false → frame_by kinds bytes ≡ frame_by (record kinds { updates = false }) bytes
other_type kinds kind bytes mid e other = elim (cases_number mid) [
  | inl none ↦ without_number kinds kind bytes mid e none
  | inr (number, behind, k) ↦
      at_head kinds kind number bytes mid behind e k ∙ rw (no_update kinds kind other) refl ∙ sym (at_head (record kinds { updates = false }) kind number bytes mid behind e k)
]

-- What no read of a cursor changes has all its bytes.
abbrev pub all_of : List (List ℕ × ℕ) → List ℕ
all_of [] = []
all_of (kept ∷ others) = kept.0
