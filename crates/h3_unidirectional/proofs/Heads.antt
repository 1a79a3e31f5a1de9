-- What the first bytes of a unidirectional stream tell rests on those bytes alone.
use Rattle.std.proofs.Common.{◌≡◌, ℕ, ◌+◌, ◌-◌, ◌<◌, ◌≤◌, ◌==◌, Bool, true, false, if◌then◌else◌, List, [], ◌∷◌, ◌++◌, length, take, drop, append-nil, append_assoc, length-append, zero, suc, refl, ap, ap₂, sym, ◌∙◌, subst, inl, inr, ◌⊎◌, arith, Some, None}
use Rattle.std.proofs.lemmas.List.{take_at, drop_at, take-append-drop, append_cancel_right}
use Rattle.std.proofs.lemmas.Bool.{cases_lt}
use Rattle.std.proofs.Math.Seq.{take-append-add, drop-append-add}
use Rattle.h3_coding.specs.Varint.{varint_at}
use Rattle.h3_coding.specs.VarintLaws.{cases_number, none_at_end}
use Rattle.h3_connection.specs.Unidirectional.{StreamKinds, Role, session_role, other_role, with_id, of_kind, role_after}
use Rattle.h3_connection.specs.Unidirectional.Role.{Untold, Control, Encoder, Decoder, Session, Push, Ignored, Other}
use Rattle.h3_unidirectional.specs.Kinds.{role_of, head_of, IsUnfinished, Tells, TellsFirst, is_untold}
use Rattle.h3_unidirectional.specs.declared.stream.Kind.{Kind}
use Rattle.h3_unidirectional.specs.declared.stream.Kind.TheVariants as kind
use Rattle.h3_unidirectional.proofs.FrameFronts.{number_front}

pub nothing_told : (bytes : List ℕ) → bytes ≡ [] → (sessions : StreamKinds) → head_of sessions bytes ≡ (Untold bytes, [])
nothing_told bytes e sessions = ap (λ o. of_kind sessions bytes o) (ap varint_at e ∙ none_at_end)

pub untold_front : (k : Kind) (bytes front : List ℕ) → role_of k bytes ≡ Untold front → bytes ≡ front
untold_front kind.Untold bytes front e = cc
untold_front kind.Control bytes front e = absurd (cc)
untold_front kind.Encoder bytes front e = absurd (cc)
untold_front kind.Decoder bytes front e = absurd (cc)
untold_front (kind.Session id) bytes front e = absurd (cc)
untold_front (kind.Push id) bytes front e = absurd (cc)
untold_front kind.Ignored bytes front e = absurd (cc)
untold_front (kind.Other number) bytes front e = absurd (cc)

-- the role by its type, where the tests of the type have values
abbrev chosen : StreamKinds → ℕ → Bool → Bool → Bool → Bool → Bool → List ℕ → List ℕ → Role × List ℕ
chosen known kind a b c d e front rest =
    if a then (Control, rest) else (
    if b then with_id Push front (varint_at rest) else (
    if c then (Encoder, rest) else (
    if d then (Decoder, rest) else (
    if e then with_id (session_role known.sessions) front (varint_at rest) else (other_role known.others kind, rest)))))

-- what stands behind the type: the id, and the bytes behind that
record IsBehind (read : List ℕ → List ℕ → Role × List ℕ) (mid rest : List ℕ) (r : Role) : Type 0 where
  tail : List ℕ
  split : mid ≡ tail ++ rest
  alike : (other more : List ℕ) → read other (tail ++ more) ≡ (r, more)

no_id : (role r : Role) (mid rest : List ℕ) → ◌≡◌ {A = Role × List ℕ} (role, mid) (r, rest) → IsBehind (λ other l. (role, l)) mid rest r
no_id role r mid rest e =
    record { tail = []; split = ap (λ (p : Role × List ℕ). p.1) e; alike = λ other more. ap (λ (p : Role × List ℕ). (p.0, more)) e }

is_none : (front : List ℕ) (r : Role) → Untold front ≡ r → is_untold r ≡ false → ⊥
is_none front r same told = let t : true ≡ false = ap is_untold same ∙ told in absurd (cc)

not_told : (r : Role) (front rest left : List ℕ) → is_untold r ≡ false → ◌≡◌ {A = Role × List ℕ} (Untold front, left) (r, rest) → ⊥
not_told r front rest left told e = let same : Untold front ≡ r = ap (λ (p : Role × List ℕ). p.0) e in is_none front r same told

one_id : (build : ℕ → Role) (front mid rest : List ℕ) (r : Role) → with_id build front (varint_at mid) ≡ (r, rest) → is_untold r ≡ false → IsBehind (λ other l. with_id build other (varint_at l)) mid rest r
one_id build front mid rest r e told = elim (cases_number mid) [
  | inl none ↦ absurd (not_told r front rest [] told (sym (ap (λ o. with_id build front o) none) ∙ e))
  | inr n ↦
      let f = number_front n.0 mid n.1 n.2 in
      let here : ◌≡◌ {A = Role × List ℕ} (build n.0, n.1) (r, rest) = sym (ap (λ o. with_id build front o) n.2) ∙ e in
      record {
        tail = f.front;
        split = f.split ∙ ap (λ l. f.front ++ l) (ap (λ (p : Role × List ℕ). p.1) here);
        alike = λ other more. ap (λ o. with_id build other o) (f.alike more) ∙ ap (λ (p : Role × List ℕ). (p.0, more)) here;
      }
]

behind : (known : StreamKinds) (kind : ℕ) (a b c d e : Bool) (front mid rest : List ℕ) (r : Role) → chosen known kind a b c d e front mid ≡ (r, rest) → is_untold r ≡ false → IsBehind (chosen known kind a b c d e) mid rest r
behind known kind true b c d e front mid rest r h told = no_id Control r mid rest h
behind known kind false true c d e front mid rest r h told = one_id Push front mid rest r h told
behind known kind false false true d e front mid rest r h told = no_id Encoder r mid rest h
behind known kind false false false true e front mid rest r h told = no_id Decoder r mid rest h
behind known kind false false false false true front mid rest r h told = one_id (session_role known.sessions) front mid rest r h told
behind known kind false false false false false front mid rest r h told = no_id (other_role known.others kind) r mid rest h

-- the bytes that tell a role
record IsHead (sessions : StreamKinds) (bytes rest : List ℕ) (r : Role) : Type 0 where
  front : List ℕ
  split : bytes ≡ front ++ rest
  alike : (more : List ℕ) → head_of sessions (front ++ more) ≡ (r, more)

head_front : (sessions : StreamKinds) (bytes rest : List ℕ) (r : Role) → head_of sessions bytes ≡ (r, rest) → is_untold r ≡ false → IsHead sessions bytes rest r
head_front sessions bytes rest r h told = elim (cases_number bytes) [
  | inl none ↦ absurd (not_told r bytes rest [] told (sym (ap (λ o. of_kind sessions bytes o) none) ∙ h))
  | inr n ↦
      let f = number_front n.0 bytes n.1 n.2 in
      let k = n.0 in
      let b = behind sessions k (k == 0) (k == 1) (k == 2) (k == 3) (k == 0x54) bytes n.1 rest r (sym (ap (λ o. of_kind sessions bytes o) n.2) ∙ h) told in
      record {
        front = f.front ++ b.tail;
        split = f.split ∙ ap (λ l. f.front ++ l) b.split ∙ sym (append_assoc f.front b.tail rest);
        alike = λ more.
            ap (head_of sessions) (append_assoc f.front b.tail more)
            ∙ ap (λ o. of_kind sessions (f.front ++ (b.tail ++ more)) o) (f.alike (b.tail ++ more)) ∙ b.alike (f.front ++ (b.tail ++ more)) more;
      }
]

-- What is left behind a role that was not told before is an end of the bytes that came.
ends_within : (sessions : StreamKinds) (before bytes rest : List ℕ) (r : Role) → head_of sessions before ≡ (Untold before, []) → IsHead sessions (before ++ bytes) rest r → is_untold r ≡ false → (length bytes < length rest) ⊎ (length rest ≤ length bytes)
    → (length rest ≤ length bytes) × (drop (length bytes - length rest) bytes ≡ rest)
ends_within sessions before bytes rest r unfinished h told (inl longer) =
    let n = length rest - length bytes in
    let sizes : length before + length bytes ≡ length h.front + length rest = sym (length-append before bytes) ∙ ap length h.split ∙ length-append h.front rest in
    let size : length before ≡ length h.front + n = omega (arith, sizes, longer) in
    let is : before ≡ h.front ++ take n rest =
    sym (take_at before bytes (length before) refl) ∙ ap (λ l. take (length before) l) h.split ∙ ap (λ k. take k (h.front ++ rest)) size ∙ take-append-add h.front rest n in
    absurd (not_told r before (take n rest) [] told (sym unfinished ∙ ap (head_of sessions) is ∙ h.alike (take n rest)))
ends_within sessions before bytes rest r unfinished h told (inr fits) =
    let n = length bytes - length rest in
    let sizes : length before + length bytes ≡ length h.front + length rest = sym (length-append before bytes) ∙ ap length h.split ∙ length-append h.front rest in
    let size : length before + n ≡ length h.front = omega (arith, sizes, fits) in
    (fits, sym (drop-append-add before bytes n) ∙ ap (λ k. drop k (before ++ bytes)) size ∙ ap (λ l. drop (length h.front) l) h.split ∙ drop_at h.front rest (length h.front) refl)

told_end : (sessions : StreamKinds) (before bytes rest : List ℕ) (r : Role) → head_of sessions before ≡ (Untold before, []) → head_of sessions (before ++ bytes) ≡ (r, rest) → is_untold r ≡ false
    → (length rest ≤ length bytes) × (drop (length bytes - length rest) bytes ≡ rest)
told_end sessions before bytes rest r unfinished h told =
    ends_within sessions before bytes rest r unfinished (head_front sessions (before ++ bytes) rest r h told) told (cases_lt (length bytes) (length rest))

tells_role : (sessions : StreamKinds) (bytes left : List ℕ) (k : Kind) → Tells sessions bytes left (Some k) → (head_of sessions bytes ≡ (role_of k [], left)) × (is_untold (role_of k []) ≡ false)
tells_role sessions bytes left kind.Untold h = absurd h
tells_role sessions bytes left kind.Control h = (h, refl)
tells_role sessions bytes left kind.Encoder h = (h, refl)
tells_role sessions bytes left kind.Decoder h = (h, refl)
tells_role sessions bytes left (kind.Session id) h = (h, refl)
tells_role sessions bytes left (kind.Push id) h = (h, refl)
tells_role sessions bytes left kind.Ignored h = (h, refl)
tells_role sessions bytes left (kind.Other number) h = (h, refl)

-- The role that these bytes tell behind those before, and those of them that are for it.
pub told : (sessions : StreamKinds) (was : Kind) (before bytes left : List ℕ) (k : Kind) → IsUnfinished was before → is_untold (role_of was before) ≡ true → Tells sessions (before ++ bytes) left (Some k)
    → (length left ≤ length bytes) × (role_after sessions (role_of was before) bytes ≡ (role_of k [], drop (length bytes - length left) bytes))
told sessions kind.Untold before bytes left k unfinished here tells =
    let t = tells_role sessions (before ++ bytes) left k tells in
    let e = told_end sessions before bytes left (role_of k []) (unfinished sessions) t.0 t.1 in
    (e.0, t.0 ∙ ap (λ l. (role_of k [], l)) (sym e.1))
told sessions kind.Control before bytes left k unfinished here tells = absurd (cc)
told sessions kind.Encoder before bytes left k unfinished here tells = absurd (cc)
told sessions kind.Decoder before bytes left k unfinished here tells = absurd (cc)
told sessions (kind.Session id) before bytes left k unfinished here tells = absurd (cc)
told sessions (kind.Push id) before bytes left k unfinished here tells = absurd (cc)
told sessions kind.Ignored before bytes left k unfinished here tells = absurd (cc)
told sessions (kind.Other number) before bytes left k unfinished here tells = absurd (cc)

all_taken : (n : ℕ) (bytes : List ℕ) → length bytes ≤ n → take n bytes ≡ bytes
all_taken zero [] h = refl
all_taken zero (byte ∷ bytes) h = absurd (omega (arith, h))
all_taken (suc n) [] h = refl
all_taken (suc n) (byte ∷ bytes) h = ap (λ l. byte ∷ l) (all_taken n bytes (omega (arith, h)))

-- the same of two runs of bytes that are read one behind the other
pub told_of_both : (sessions : StreamKinds) (was : Kind) (before bytes left a b : List ℕ) (limit : ℕ) (k : Kind) → a ≡ before → b ≡ bytes → length before + length bytes ≤ limit → IsUnfinished was before
    → is_untold (role_of was before) ≡ true → Tells sessions (take limit (a ++ b)) left (Some k)
    → (length left ≤ length bytes) × (role_after sessions (role_of was before) bytes ≡ (role_of k [], drop (length bytes - length left) bytes))
told_of_both sessions was before bytes left a b limit k first second fits unfinished here tells =
    let both : take limit (a ++ b) ≡ before ++ bytes = ap₂ (λ x y. take limit (x ++ y)) first second ∙ all_taken limit (before ++ bytes) (omega (arith, fits, length-append before bytes)) in
    told sessions was before bytes left k unfinished here (subst (λ l. Tells sessions l left (Some k)) both tells)

-- and where they do not tell it yet
untold_then : (sessions : StreamKinds) (was : Kind) (before bytes left : List ℕ) → is_untold (role_of was before) ≡ true → Tells sessions (before ++ bytes) left None
    → IsUnfinished was (before ++ bytes) × (role_after sessions (role_of was before) bytes ≡ (role_of was (before ++ bytes), []))
untold_then sessions kind.Untold before bytes left here tells = (tells, tells sessions)
untold_then sessions kind.Control before bytes left here tells = absurd (cc)
untold_then sessions kind.Encoder before bytes left here tells = absurd (cc)
untold_then sessions kind.Decoder before bytes left here tells = absurd (cc)
untold_then sessions (kind.Session id) before bytes left here tells = absurd (cc)
untold_then sessions (kind.Push id) before bytes left here tells = absurd (cc)
untold_then sessions kind.Ignored before bytes left here tells = absurd (cc)
untold_then sessions (kind.Other number) before bytes left here tells = absurd (cc)

pub untold_of_both : (sessions : StreamKinds) (was : Kind) (before bytes left a b : List ℕ) (limit : ℕ) → a ≡ before → b ≡ bytes → length before + length bytes ≤ limit → is_untold (role_of was before) ≡ true
    → Tells sessions (take limit (a ++ b)) left None → IsUnfinished was (before ++ bytes) × (role_after sessions (role_of was before) bytes ≡ (role_of was (before ++ bytes), []))
untold_of_both sessions was before bytes left a b limit first second fits here tells =
    let both : take limit (a ++ b) ≡ before ++ bytes = ap₂ (λ x y. take limit (x ++ y)) first second ∙ all_taken limit (before ++ bytes) (omega (arith, fits, length-append before bytes)) in
    untold_then sessions was before bytes left here (subst (λ l. Tells sessions l left None) both tells)

-- The bytes that tell the role are a front of those that came.
head_before : (sessions : StreamKinds) (before bytes rest : List ℕ) (r : Role) → (h : IsHead sessions (before ++ bytes) rest r) → (length rest ≤ length bytes) × (drop (length bytes - length rest) bytes ≡ rest)
    → TellsFirst sessions (Untold before) bytes r rest
head_before sessions before bytes rest r h (fits, end) =
    let n = length bytes - length rest in
    let cut : bytes ≡ take n bytes ++ rest = sym (take-append-drop n bytes) ∙ ap (λ l. take n bytes ++ l) end in
    let all : (before ++ take n bytes) ++ rest ≡ h.front ++ rest = append_assoc before (take n bytes) rest ∙ ap (λ l. before ++ l) (sym cut) ∙ h.split in
    let same : before ++ take n bytes ≡ h.front = append_cancel_right (before ++ take n bytes) h.front rest all in
    record { front = take n bytes; cut = cut; tells = ap (head_of sessions) (same ∙ sym (append-nil h.front)) ∙ h.alike [] }

-- a role that was told stays
told_before : (sessions : StreamKinds) (role : Role) (bytes rest : List ℕ) (r : Role) → ((l : List ℕ) → role_after sessions role l ≡ (role, l)) → role_after sessions role bytes ≡ (r, rest) → TellsFirst sessions role bytes r rest
told_before sessions role bytes rest r stays h =
    let e : ◌≡◌ {A = Role × List ℕ} (role, bytes) (r, rest) = sym (stays bytes) ∙ h in
    record { front = []; cut = ap (λ (p : Role × List ℕ). p.1) e; tells = stays [] ∙ ap (λ (p : Role × List ℕ). (p.0, [])) e }

pub tells_first : (sessions : StreamKinds) (was : Kind) (before bytes : List ℕ) → IsUnfinished was before → (r : Role) (rest : List ℕ) → is_untold r ≡ false → role_after sessions (role_of was before) bytes ≡ (r, rest)
    → TellsFirst sessions (role_of was before) bytes r rest
tells_first sessions kind.Untold before bytes unfinished r rest told h = head_before sessions before bytes rest r (head_front sessions (before ++ bytes) rest r h told) (told_end sessions before bytes rest r (unfinished sessions) h told)
tells_first sessions kind.Control before bytes unfinished r rest told h = told_before sessions Control bytes rest r (λ l. refl) h
tells_first sessions kind.Encoder before bytes unfinished r rest told h = told_before sessions Encoder bytes rest r (λ l. refl) h
tells_first sessions kind.Decoder before bytes unfinished r rest told h = told_before sessions Decoder bytes rest r (λ l. refl) h
tells_first sessions (kind.Session id) before bytes unfinished r rest told h = told_before sessions (Session id) bytes rest r (λ l. refl) h
tells_first sessions (kind.Push id) before bytes unfinished r rest told h = told_before sessions (Push id) bytes rest r (λ l. refl) h
tells_first sessions kind.Ignored before bytes unfinished r rest told h = told_before sessions Ignored bytes rest r (λ l. refl) h
tells_first sessions (kind.Other number) before bytes unfinished r rest told h = told_before sessions (Other number) bytes rest r (λ l. refl) h

-- the same of the first bytes
pub first_told : (sessions : StreamKinds) (bytes left : List ℕ) (k : Kind) → Tells sessions bytes left (Some k) → (length left ≤ length bytes) × (role_after sessions (Untold []) bytes ≡ (role_of k [], drop (length bytes - length left) bytes))
first_told sessions bytes left k tells = told sessions kind.Untold [] bytes left k (nothing_told [] refl) refl tells

pub first_front : (sessions : StreamKinds) (bytes : List ℕ) (r : Role) (rest : List ℕ) → is_untold r ≡ false → role_after sessions (Untold []) bytes ≡ (r, rest) → TellsFirst sessions (Untold []) bytes r rest
first_front sessions bytes r rest = tells_first sessions kind.Untold [] bytes (nothing_told [] refl) r rest
