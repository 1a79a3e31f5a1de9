-- A list's outline is that of its head, field by field.
use Rattle.std.proofs.Common.{◌≡◌, ℕ, ◌+◌, ◌<◌, ◌≤◌, Bool, true, false, not, ◌&&◌, ◌||◌, List, [], ◌∷◌, length, drop, take, get_or, fold, Option, Some, None, refl, ap, subst, sym, ◌∙◌, arith, if◌then◌else◌, take_all, nat_le, nat_lt, bytes_eq}
use Rattle.std.specs.Prelude.{All, is_some}
use Rattle.std.proofs.lemmas.Bool.{leb-true, ltb-true}
use Rattle.std.proofs.lemmas.List.{drop_more, drop_all}
use Rattle.std.proofs.lemmas.Slice.Eq.{bytes_eq-Decides}
use Rattle.http.specs.StatusCode.{IsCodeText, code_digits}
use Rattle.h3_field.specs.Field.{Field}
use Rattle.h3_header.specs.BadPart.{bad_part, bad_part_at, AreGood, IsHeadUnlessMany}
use Rattle.h3_header.specs.Head.{Head, is_request, is_response, trailer_head}
use Rattle.h3_header.specs.HeadRead.{HeadRead, IsHead, IsNone, head_by, is_name_at, is_value_at}
use Rattle.h3_header.specs.HeadTests.{is_code_text, number_of}
use Rattle.h3_header.specs.Reads.{IsHeadOf, kind_of, with_kind, with_field}
use Rattle.h3_header.specs.declared.headers.judge.BadPart.TheVariants as part
use Rattle.h3_header.specs.declared.headers.kind.FieldKind.{FieldKind}
use Rattle.h3_header.specs.declared.headers.kind.FieldKind.TheVariants.{Method, Scheme, Authority, Path, Status, Protocol, Regular}
use Rattle.h3_messages.specs.Outline.{IsOutlined, outline_of, empty_outline, outlined, outlined_by}
use Rattle.h3_messages.specs.declared.outline.Outline.{Outline}

pub is_status : (text : List ℕ) → is_code_text text ≡ true → IsCodeText text
is_status text is = by (nat_le 100 (number_of text)) (nat_lt (number_of text) 1000) (bytes_eq text (code_digits (number_of text))) refl refl refl is
  where
    by : (a b c : Bool) → nat_le 100 (number_of text) ≡ a → nat_lt (number_of text) 1000 ≡ b → bytes_eq text (code_digits (number_of text)) ≡ c → ((a && b) && c) ≡ true → IsCodeText text
    by true true true p q r is = (number_of text, (leb-true 100 (number_of text) p, ltb-true (number_of text) 1000 q), (bytes_eq-Decides text (code_digits (number_of text))).0 r)
    by true true false p q r is = absurd (cc)
    by true false c p q r is = absurd (cc)
    by false b c p q r is = absurd (cc)

pub method_with_status : (h : Head) → is_some h.status ≡ true → not (is_response h) ≡ is_some h.method
method_with_status h is = by (is_some h.status) (is_some h.method) is
  where
    by : (status method : Bool) → status ≡ true → not (status && not method) ≡ method
    by true true is = refl
    by true false is = refl
    by false method is = absurd (cc)

pub method_alone : (h : Head) → is_some h.status ≡ false → is_request h ≡ is_some h.method
method_alone h is = by (is_some h.status) (is_some h.method) is
  where
    by : (status method : Bool) → status ≡ false → (method && not status) ≡ method
    by false true is = refl
    by false false is = refl
    by true method is = absurd (cc)

-- the value of a field of which nothing is malformed may stand there
pub value_is_good : (any : Bool) (at : FieldKind) (f : Field) → bad_part_at any at f ≡ None → is_value_at any at f.value ≡ true
value_is_good any at f is = by (is_name_at at f.name) (is_value_at any at f.value) is
  where
    by : (name value : Bool) → (if not name then Some part.Name else (if not value then Some part.Value else None)) ≡ None → value ≡ true
    by true true is = refl
    by true false is = absurd (cc)
    by false value is = absurd (cc)

-- of a status this does not hang on which protocols are taken
pub status_is_good : (any : Bool) (f : Field) → bad_part any f ≡ None → kind_of f.name ≡ Status → is_value_at false Status f.value ≡ true
status_is_good any f good is = value_is_good any Status f (subst (λ at. bad_part_at any at f ≡ None) is good)

-- one of several is there
this : (a : Bool) → (a || true) ≡ true
this true = refl
this false = refl

earlier : (a b : Bool) → a ≡ true → (a || b) ≡ true
earlier true b is = refl
earlier false b is = absurd (cc)

outline_by : (method : Bool) (status : Option ℕ) (a b : Bool) → a ≡ b → (let o : Outline = record { method = method; pseudo = a; status = status } in o) ≡ record { method = method; pseudo = b; status = status }
outline_by method status a b is = ap (λ (p : Bool). let o : Outline = record { method = method; pseudo = p; status = status } in o) is

outlined_is : (at : FieldKind) (h : Head) (f : Field) → outline_of (with_kind at h f) ≡ outlined_by at (outline_of h) f
outlined_is Method h f = refl
outlined_is Scheme h f = outline_by (is_some h.method) h.status _ true (earlier _ _ (earlier _ _ (earlier _ _ (earlier _ _ (this (is_some h.method))))))
outlined_is Authority h f = outline_by (is_some h.method) h.status _ true (earlier _ _ (earlier _ _ (earlier _ _ (this (is_some h.method || is_some h.scheme)))))
outlined_is Path h f = outline_by (is_some h.method) h.status _ true (earlier _ _ (earlier _ _ (this _)))
outlined_is Status h f = outline_by (is_some h.method) _ _ true (earlier _ _ (this _))
outlined_is Protocol h f = outline_by (is_some h.method) h.status _ true (this _)
outlined_is Regular h f = refl

outlines : (h : Head) (fields : List Field) → outline_of (fold with_field h fields) ≡ fold outlined (outline_of h) fields
outlines h [] = refl
outlines h (f ∷ fields) = outlines (with_field h f) fields ∙ ap (λ o. fold outlined o fields) (outlined_is (kind_of f.name) h f)

-- what the rest adds to the outline of the fields so far
pub next_outline : (fields : List Field) (i : ℕ) (f : Field) (o start : Outline) → i < length fields → get_or fields i f ≡ f → fold outlined o (drop i fields) ≡ start
    → fold outlined (outlined o f) (drop (i + 1) fields) ≡ start
next_outline fields i f o start inside is before =
    sym (ap (fold outlined o) (drop_more fields i f inside ∙ ap (λ g. g ∷ drop (i + 1) fields) is)) ∙ before

pub last_outline : (fields : List Field) (i : ℕ) (o start : Outline) → length fields ≤ i → fold outlined o (drop i fields) ≡ start → o ≡ start
last_outline fields i o start past before = sym (ap (fold outlined o) (drop_all i fields past)) ∙ before

-- Of so few fields none is malformed, where the walk came to their end.
pub all_good : (any : Bool) (fields : List Field) (i : ℕ) → length fields ≤ i → length fields ≤ 24576 → All (λ f. bad_part any f ≡ None) (take i fields) → AreGood any fields
all_good any fields i past few good = subst (All (λ f. bad_part any f ≡ None)) (take_all i fields past ∙ sym (take_all 24576 fields few)) good

-- So they read as a head, and this is its outline.
pub short_head : (any : Bool) (fields : List Field) → ((fs : List Field) (h : Head) → head_by any fs ≡ IsHead h → IsHeadOf any fs h) → length fields ≤ 24576 → IsHeadUnlessMany any fields
    → IsOutlined (head_by any fields) (fold outlined empty_outline fields)
short_head any fields law few unless = by (head_by any fields) refl
  where
    by : (r : HeadRead) → head_by any fields ≡ r → IsOutlined r (fold outlined empty_outline fields)
    by (IsHead h) is = sym (outlines (trailer_head []) fields) ∙ ap outline_of (sym (law fields h is).1)
    by (IsNone why) is = absurd (omega (arith, few, unless why is))

-- the outline of a list that reads as a head
pub head_outlined : (r : HeadRead) (h : Head) (o : Outline) → r ≡ IsHead h → o ≡ outline_of h → IsOutlined r o
head_outlined r h o is same = subst (λ q. IsOutlined q o) (sym is) same
