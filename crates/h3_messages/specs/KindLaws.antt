-- What holds of a name by its kind, and of one that is good.
use Rattle.std.proofs.Common.{◌≡◌, ℕ, Bool, true, false, not, ◌&&◌, ◌==◌, List, [], ◌∷◌, length, slice_index, bytes_eq, codes, nat_lt, if◌then◌else◌, Some, None, refl, ap, sym, ◌∙◌, subst}
use Rattle.std.specs.List.{list_all}
use Rattle.std.proofs.lemmas.Bool.{eqb-true, false≢true}
use Rattle.std.proofs.lemmas.Slice.Eq.{bytes_eq-Decides}
use Rattle.http_header.specs.Token.{is_token_byte}
use Rattle.h3_field.specs.Field.{Field}
use Rattle.h3_header.specs.BadPart.{bad_part_at}
use Rattle.h3_header.specs.HeadRead.{is_name_at, is_value_at}
use Rattle.h3_header.specs.HeadTests.{is_header_name}
use Rattle.h3_header.specs.Reads.{kind_of}
use Rattle.h3_header.specs.declared.headers.judge.BadPart.TheVariants as part
use Rattle.h3_header.specs.declared.headers.kind.FieldKind.{FieldKind}
use Rattle.h3_header.specs.declared.headers.kind.FieldKind.TheVariants.{Method, Scheme, Authority, Path, Status, Protocol, Regular}

-- what holds of the name of each pseudo-header field, and of any name of no such kind
pub by_kind : (P : List ℕ → FieldKind → Type 0) → P (codes ":method") Method → P (codes ":scheme") Scheme → P (codes ":authority") Authority → P (codes ":path") Path → P (codes ":status") Status → P (codes ":protocol") Protocol
    → (name : List ℕ) → (kind_of name ≡ Regular → P name Regular) → P name (kind_of name)
unfolding kind_of
by_kind P method scheme authority path status protocol name regular =
    by (bytes_eq name (codes ":method")) (bytes_eq name (codes ":scheme")) (bytes_eq name (codes ":authority")) (bytes_eq name (codes ":path")) (bytes_eq name (codes ":status")) (bytes_eq name (codes ":protocol"))
    refl refl refl refl refl refl refl
  where
    named : (text : List ℕ) (at : FieldKind) → bytes_eq name text ≡ true → P text at → P name at
    named text at is given = subst (λ n. P n at) (sym ((bytes_eq-Decides name text).0 is)) given

    by : (a b c d e f : Bool) → bytes_eq name (codes ":method") ≡ a → bytes_eq name (codes ":scheme") ≡ b → bytes_eq name (codes ":authority") ≡ c → bytes_eq name (codes ":path") ≡ d → bytes_eq name (codes ":status") ≡ e
        → bytes_eq name (codes ":protocol") ≡ f
        → kind_of name ≡ (if a then Method else (if b then Scheme else (if c then Authority else (if d then Path else (if e then Status else (if f then Protocol else Regular))))))
        → P name (if a then Method else (if b then Scheme else (if c then Authority else (if d then Path else (if e then Status else (if f then Protocol else Regular))))))
    by true b c d e f i j k l m n is = named (codes ":method") Method i method
    by false true c d e f i j k l m n is = named (codes ":scheme") Scheme j scheme
    by false false true d e f i j k l m n is = named (codes ":authority") Authority k authority
    by false false false true e f i j k l m n is = named (codes ":path") Path l path
    by false false false false true f i j k l m n is = named (codes ":status") Status m status
    by false false false false false true i j k l m n is = named (codes ":protocol") Protocol n protocol
    by false false false false false false i j k l m n is = regular is

left : (a b : Bool) → (a && b) ≡ true → a ≡ true
left true b is = refl
left false b is = is

right : (a b : Bool) → (a && b) ≡ true → b ≡ true
right true b is = is
right false b is = absurd (false≢true is)

colon_is_none : is_token_byte 58 ≡ false
unfolding is_token_byte
colon_is_none = refl

no_colon : (b : ℕ) → is_token_byte b ≡ true → (b == 58) ≡ false
no_colon b is = by (b == 58) refl
  where
    by : (same : Bool) → (b == 58) ≡ same → same ≡ false
    by false e = refl
    by true e = absurd (false≢true (sym colon_is_none ∙ (ap is_token_byte (sym (eqb-true b 58 e)) ∙ is)))

first_is_plain : (text : List ℕ) → list_all is_token_byte text ≡ true → (slice_index text 0 == 58) ≡ false
first_is_plain [] is = refl
first_is_plain (b ∷ bytes) is = no_colon b (left (is_token_byte b) (list_all is_token_byte bytes) is)

-- a good name of a regular field has no colon ahead
pub name_is_plain : (name : List ℕ) → is_header_name name ≡ true → (slice_index name 0 == 58) ≡ false
name_is_plain name is = first_is_plain name (right (nat_lt 0 (length name)) _ (left _ _ (left _ _ is)))

-- the name of a field of which nothing is malformed may stand there
pub name_is_good : (any : Bool) (at : FieldKind) (f : Field) → bad_part_at any at f ≡ None → is_name_at at f.name ≡ true
name_is_good any at f is = by (is_name_at at f.name) (is_value_at any at f.value) is
  where
    by : (name value : Bool) → (if not name then Some part.Name else (if not value then Some part.Value else None)) ≡ None → name ≡ true
    by true value is = refl
    by false value is = absurd (cc)
