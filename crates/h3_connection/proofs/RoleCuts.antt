-- However the first bytes of a unidirectional stream are cut, they give the same role and leave the same bytes for it.
use Rattle.std.proofs.Common.{◌≡◌, ℕ, Bool, true, false, if◌then◌else◌, List, [], ◌++◌, refl, ap, sym, ◌∙◌, inl, inr, append_assoc, Some}
use Rattle.std.specs.Prelude.{◌==◌, ◌&&◌, not}
use Rattle.h3_coding.specs.Varint.{varint_at}
use Rattle.h3_coding.specs.VarintLaws.{cases_number, reads_more}
use Rattle.h3_proto.specs.OtherSettings.{is_reserved}
use Rattle.h3_connection.specs.Unidirectional.{StreamKinds, Role, session_role, with_id, of_kind, role_after}
use Rattle.h3_connection.specs.Unidirectional.Role.{Untold, Control, Encoder, Decoder, Session, Push, Ignored, Other}

-- what more bytes do behind a role and its bytes
abbrev pub then_role : StreamKinds → List ℕ → Role × List ℕ → Role × List ℕ
then_role sessions more (role, rest) = ((role_after sessions role more).0, rest ++ (role_after sessions role more).1)

-- no role is told, or it is and more bytes are for it
abbrev Continues : List ℕ → List ℕ → Role × List ℕ → Role × List ℕ → Type 0
Continues bytes more (Untold front, rest) y = (front ≡ bytes) × (rest ≡ [])
Continues bytes more (Control, rest) y = y ≡ (Control, rest ++ more)
Continues bytes more (Encoder, rest) y = y ≡ (Encoder, rest ++ more)
Continues bytes more (Decoder, rest) y = y ≡ (Decoder, rest ++ more)
Continues bytes more (Session id, rest) y = y ≡ (Session id, rest ++ more)
Continues bytes more (Push id, rest) y = y ≡ (Push id, rest ++ more)
Continues bytes more (Ignored, rest) y = y ≡ (Ignored, rest ++ more)
Continues bytes more (Other kind, rest) y = y ≡ (Other kind, rest ++ more)

by_test : (bytes more : List ℕ) (b : Bool) (x y z w : Role × List ℕ) → Continues bytes more x z → Continues bytes more y w → Continues bytes more (if b then x else y) (if b then z else w)
by_test bytes more true x y z w p q = p
by_test bytes more false x y z w p q = q

session_id : (sessions : StreamKinds) (bytes more rest : List ℕ) → Continues bytes more (with_id (session_role sessions.sessions) bytes (varint_at rest)) (with_id (session_role sessions.sessions) (bytes ++ more) (varint_at (rest ++ more)))
session_id sessions bytes more rest = elim (cases_number rest) [
  | inl none ↦ rw none (refl, refl)
  | inr k ↦ rw (k.2, reads_more k.0 rest k.1 more k.2) (by_choice sessions.sessions k.0 k.1)
]
  where
    by_choice : (b : Bool) (id : ℕ) (left : List ℕ) → Continues bytes more (session_role b id, left) (session_role b id, left ++ more)
    by_choice true id left = refl
    by_choice false id left = refl

push_id : (bytes more rest : List ℕ) → Continues bytes more (with_id Push bytes (varint_at rest)) (with_id Push (bytes ++ more) (varint_at (rest ++ more)))
push_id bytes more rest = elim (cases_number rest) [
  | inl none ↦ rw none (refl, refl)
  | inr k ↦ rw (k.2, reads_more k.0 rest k.1 more k.2) refl
]

other_kind : (b : Bool) (kind : ℕ) (bytes more rest : List ℕ) → Continues bytes more (if b then Other kind else Ignored, rest) (if b then Other kind else Ignored, rest ++ more)
other_kind true kind bytes more rest = refl
other_kind false kind bytes more rest = refl

kind_more : (sessions : StreamKinds) (bytes more : List ℕ) (kind : ℕ) (rest : List ℕ) → Continues bytes more (of_kind sessions bytes (Some (kind, rest))) (of_kind sessions (bytes ++ more) (Some (kind, rest ++ more)))
kind_more sessions bytes more kind rest =
    by_test bytes more (kind == 0) _ _ _ _ refl
    (by_test bytes more (kind == 1) _ _ _ _ (push_id bytes more rest)
    (by_test bytes more (kind == 2) _ _ _ _ refl
    (by_test bytes more (kind == 3) _ _ _ _ refl
    (by_test bytes more (kind == 0x54) _ _ _ _ (session_id sessions bytes more rest) (other_kind (sessions.others && not (is_reserved kind)) kind bytes more rest)))))

continues : (sessions : StreamKinds) (bytes more : List ℕ) → Continues bytes more (of_kind sessions bytes (varint_at bytes)) (of_kind sessions (bytes ++ more) (varint_at (bytes ++ more)))
continues sessions bytes more = elim (cases_number bytes) [
  | inl none ↦ rw none (refl, refl)
  | inr k ↦ rw (k.2, reads_more k.0 bytes k.1 more k.2) (kind_more sessions bytes more k.0 k.1)
]

told : (sessions : StreamKinds) (bytes more : List ℕ) (x : Role × List ℕ) → Continues bytes more x (of_kind sessions (bytes ++ more) (varint_at (bytes ++ more))) → of_kind sessions (bytes ++ more) (varint_at (bytes ++ more)) ≡ then_role sessions more x
told sessions bytes more (Untold front, rest) h =
    sym (ap (λ l. ((role_after sessions (Untold front) more).0, l ++ (role_after sessions (Untold front) more).1)) h.1 ∙ ap (λ f. role_after sessions (Untold f) more) h.0)
told sessions bytes more (Control, rest) h = h
told sessions bytes more (Encoder, rest) h = h
told sessions bytes more (Decoder, rest) h = h
told sessions bytes more (Session id, rest) h = h
told sessions bytes more (Push id, rest) h = h
told sessions bytes more (Ignored, rest) h = h
told sessions bytes more (Other kind, rest) h = h

pub role_cut : (sessions : StreamKinds) (role : Role) (bytes more : List ℕ) → role_after sessions role (bytes ++ more) ≡ then_role sessions more (role_after sessions role bytes)
role_cut sessions (Untold front) bytes more =
    ap (λ l. of_kind sessions l (varint_at l)) (sym (append_assoc front bytes more))
    ∙ told sessions (front ++ bytes) more (of_kind sessions (front ++ bytes) (varint_at (front ++ bytes))) (continues sessions (front ++ bytes) more)
role_cut sessions Control bytes more = refl
role_cut sessions Encoder bytes more = refl
role_cut sessions Decoder bytes more = refl
role_cut sessions (Session id) bytes more = refl
role_cut sessions (Push id) bytes more = refl
role_cut sessions Ignored bytes more = refl
role_cut sessions (Other kind) bytes more = refl

-- no bytes are left where no role is told
abbrev LeavesNone : Role × List ℕ → Type 0
LeavesNone (Untold front, rest) = rest ≡ []
LeavesNone _ = Unit {0}

none_of : (bytes more : List ℕ) (x y : Role × List ℕ) → Continues bytes more x y → LeavesNone x
none_of bytes more (Untold front, rest) y h = h.1
none_of bytes more (Control, rest) y h = tt
none_of bytes more (Encoder, rest) y h = tt
none_of bytes more (Decoder, rest) y h = tt
none_of bytes more (Session id, rest) y h = tt
none_of bytes more (Push id, rest) y h = tt
none_of bytes more (Ignored, rest) y h = tt
none_of bytes more (Other kind, rest) y h = tt

leaves_none : (sessions : StreamKinds) (role : Role) (bytes : List ℕ) → LeavesNone (role_after sessions role bytes)
leaves_none sessions (Untold front) bytes = none_of (front ++ bytes) [] _ _ (continues sessions (front ++ bytes) [])
leaves_none sessions Control bytes = tt
leaves_none sessions Encoder bytes = tt
leaves_none sessions Decoder bytes = tt
leaves_none sessions (Session id) bytes = tt
leaves_none sessions (Push id) bytes = tt
leaves_none sessions Ignored bytes = tt
leaves_none sessions (Other kind) bytes = tt

none_left : (x : Role × List ℕ) (front : List ℕ) → x.0 ≡ Untold front → LeavesNone x → x.1 ≡ []
none_left (Untold g, rest) front e h = h
none_left (Control, rest) front e h = absurd (cc)
none_left (Encoder, rest) front e h = absurd (cc)
none_left (Decoder, rest) front e h = absurd (cc)
none_left (Session id, rest) front e h = absurd (cc)
none_left (Push id, rest) front e h = absurd (cc)
none_left (Ignored, rest) front e h = absurd (cc)
none_left (Other kind, rest) front e h = absurd (cc)

pub untold_leaves_none : (sessions : StreamKinds) (role : Role) (bytes front : List ℕ) → (role_after sessions role bytes).0 ≡ Untold front → (role_after sessions role bytes).1 ≡ []
untold_leaves_none sessions role bytes front e = none_left (role_after sessions role bytes) front e (leaves_none sessions role bytes)
