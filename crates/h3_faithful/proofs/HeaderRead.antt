-- A list of fields is the header that it reads as, field by field.
use Rattle.std.proofs.Common.{◌≡◌, Bool, true, false, ℕ, List, [], ◌∷◌, Option, Some, None, if◌then◌else◌, refl, sym, ap, subst, ◌∙◌}
use Rattle.std.specs.Prelude.{◌||◌, ◌++◌, bytes_eq, codes, fold, is_some, option_map}
use Rattle.std.specs.List.{list_any}
use Rattle.std.proofs.lemmas.Slice.Eq.{bytes_eq-Decides}
use Rattle.http_header.specs.FieldValue.{FieldValue, plain_value}
use Rattle.http_header.specs.HeaderMap.{Entries, append}
use Rattle.http.specs.StatusCode.{code_digits}
use Rattle.http_uri.specs.Grammar.{or_slash, without_fragment}
use Rattle.h3_field.specs.Field.{Field, plain_field}
use Rattle.h3_qpack.specs.Sizes.{last_value, value_after}
use Rattle.h3_header.specs.Head.{Head, has_pseudo, head_fields, optional_field, pseudo_fields, regular_fields, trailer_head}
use Rattle.h3_header.specs.Reads.{head_of_fields, kind_of, with_field, with_kind}
use Rattle.h3_header.specs.declared.headers.kind.FieldKind.{FieldKind}
use Rattle.h3_header.specs.declared.headers.kind.FieldKind.TheVariants.{Authority, Method, Path, Protocol, Regular, Scheme, Status}
use Rattle.h3_proto.specs.declared.stream.Side.{Side}
use Rattle.h3_proto.specs.declared.stream.Side.TheVariants.{Client, Server}
use Rattle.h3_connection.specs.OwnIds.{other}
use Rattle.h3_connection.specs.Pulling.{is_for}
use Rattle.h3_headline.specs.StatusLaws.{status_told}
use Rattle.h3_faithful.specs.Reading.{header_in, is_pseudo, is_sent_by}

-- A part of a header, by the fields of one name: another field leaves it.
record IsPartOf {X : Type 0} (part : Head → Option X) (value : List ℕ → X) (name : List ℕ) : Type 0 where
  sets : (h : Head) (f : Field) → bytes_eq f.name name ≡ true → part (with_field h f) ≡ Some (value f.value)
  stays : (h : Head) (f : Field) → bytes_eq f.name name ≡ false → part (with_field h f) ≡ part h

part_after : {X : Type 0} (part : Head → Option X) (value : List ℕ → X) (name : List ℕ) → IsPartOf part value name → (h : Head) (last : Option (List ℕ)) (f : Field)
    → part h ≡ option_map value last → part (with_field h f) ≡ option_map value (value_after name last f)
part_after part value name is h last f before = by_name (bytes_eq f.name name) refl
  where
    by_name : (b : Bool) → bytes_eq f.name name ≡ b → part (with_field h f) ≡ option_map value (if b then Some f.value else last)
    by_name true e = is.sets h f e
    by_name false e = is.stays h f e ∙ before

part_from : {X : Type 0} (part : Head → Option X) (value : List ℕ → X) (name : List ℕ) → IsPartOf part value name → (h : Head) (last : Option (List ℕ)) (fields : List Field)
    → part h ≡ option_map value last → part (fold with_field h fields) ≡ option_map value (fold (value_after name) last fields)
part_from part value name is h last [] before = before
part_from part value name is h last (f ∷ fields) before = part_from part value name is (with_field h f) (value_after name last f) fields (part_after part value name is h last f before)

-- The kinds of a name in turn, each with its test.
test : (P : FieldKind → Type 0) (b : Bool) (x y : FieldKind) → (b ≡ true → P x) → P y → P (if b then x else y)
test P true x y p q = p refl
test P false x y p q = q

by_kind : (P : FieldKind → Type 0) (name : List ℕ) → (bytes_eq name (codes ":method") ≡ true → P Method) → (bytes_eq name (codes ":scheme") ≡ true → P Scheme)
    → (bytes_eq name (codes ":authority") ≡ true → P Authority) → (bytes_eq name (codes ":path") ≡ true → P Path) → (bytes_eq name (codes ":status") ≡ true → P Status)
    → (bytes_eq name (codes ":protocol") ≡ true → P Protocol) → P Regular → P (kind_of name)
unfolding kind_of
by_kind P name method scheme authority path status protocol regular =
    test P (bytes_eq name (codes ":method")) _ _ method (test P (bytes_eq name (codes ":scheme")) _ _ scheme (test P (bytes_eq name (codes ":authority")) _ _ authority
    (test P (bytes_eq name (codes ":path")) _ _ path (test P (bytes_eq name (codes ":status")) _ _ status (test P (bytes_eq name (codes ":protocol")) _ _ protocol regular)))))

never : {X : Type 0} (b : Bool) → b ≡ false → b ≡ true → X
never true e h = absurd (cc)
never false e h = absurd (cc)

-- the field of a name
of_name : (P : List ℕ → Type 0) (name word : List ℕ) → bytes_eq name word ≡ true → P word → P name
of_name P name word e p = subst P (sym ((bytes_eq-Decides name word).0 e)) p

same_value : (o : Option (List ℕ)) → option_map (λ (v : List ℕ). v) o ≡ o
same_value None = refl
same_value (Some v) = refl

method_is : IsPartOf (λ h. h.method) (λ v. v) (codes ":method")
unfolding kind_of
method_is = record {
  sets = λ h f e. of_name (λ n. (with_kind (kind_of n) h f).method ≡ Some f.value) f.name (codes ":method") e refl;
  stays = λ h f other. by_kind (λ k. (with_kind k h f).method ≡ h.method) f.name (never _ other) (λ e. refl) (λ e. refl) (λ e. refl) (λ e. refl) (λ e. refl) refl;
}

scheme_is : IsPartOf (λ h. h.scheme) (λ v. v) (codes ":scheme")
unfolding kind_of
scheme_is = record {
  sets = λ h f e. of_name (λ n. (with_kind (kind_of n) h f).scheme ≡ Some f.value) f.name (codes ":scheme") e refl;
  stays = λ h f other. by_kind (λ k. (with_kind k h f).scheme ≡ h.scheme) f.name (λ e. refl) (never _ other) (λ e. refl) (λ e. refl) (λ e. refl) (λ e. refl) refl;
}

authority_is : IsPartOf (λ h. h.authority) (λ v. v) (codes ":authority")
unfolding kind_of
authority_is = record {
  sets = λ h f e. of_name (λ n. (with_kind (kind_of n) h f).authority ≡ Some f.value) f.name (codes ":authority") e refl;
  stays = λ h f other. by_kind (λ k. (with_kind k h f).authority ≡ h.authority) f.name (λ e. refl) (λ e. refl) (never _ other) (λ e. refl) (λ e. refl) (λ e. refl) refl;
}

path_is : IsPartOf (λ h. h.path) without_fragment (codes ":path")
unfolding kind_of
path_is = record {
  sets = λ h f e. of_name (λ n. (with_kind (kind_of n) h f).path ≡ Some (without_fragment f.value)) f.name (codes ":path") e refl;
  stays = λ h f other. by_kind (λ k. (with_kind k h f).path ≡ h.path) f.name (λ e. refl) (λ e. refl) (λ e. refl) (never _ other) (λ e. refl) (λ e. refl) refl;
}

protocol_is : IsPartOf (λ h. h.protocol) (λ v. v) (codes ":protocol")
unfolding kind_of
protocol_is = record {
  sets = λ h f e. of_name (λ n. (with_kind (kind_of n) h f).protocol ≡ Some f.value) f.name (codes ":protocol") e refl;
  stays = λ h f other. by_kind (λ k. (with_kind k h f).protocol ≡ h.protocol) f.name (λ e. refl) (λ e. refl) (λ e. refl) (λ e. refl) (λ e. refl) (never _ other) refl;
}

-- the map of the regular fields
abbrev regular_step : Entries FieldValue → Field → Entries FieldValue
regular_step m f = if is_pseudo f then m else append m f.name (plain_value f.value)

regular_after : (h : Head) (f : Field) → (with_field h f).regular ≡ regular_step h.regular f
unfolding kind_of
regular_after h f =
    by_names (bytes_eq f.name (codes ":method")) (bytes_eq f.name (codes ":scheme")) (bytes_eq f.name (codes ":authority")) (bytes_eq f.name (codes ":path")) (bytes_eq f.name (codes ":status"))
    (bytes_eq f.name (codes ":protocol"))
  where
    by_names : (a b c d e g : Bool)
        → (with_kind (if a then Method else (if b then Scheme else (if c then Authority else (if d then Path else (if e then Status else (if g then Protocol else Regular)))))) h f).regular
        ≡ (if a || (b || (c || (d || (e || (g || false))))) then h.regular else append h.regular f.name (plain_value f.value))
    by_names true b c d e g = refl
    by_names false true c d e g = refl
    by_names false false true d e g = refl
    by_names false false false true e g = refl
    by_names false false false false true g = refl
    by_names false false false false false true = refl
    by_names false false false false false false = refl

regular_from : (h : Head) (fields : List Field) → (fold with_field h fields).regular ≡ fold regular_step h.regular fields
regular_from h [] = refl
regular_from h (f ∷ fields) = regular_from (with_field h f) fields ∙ ap (λ m. fold regular_step m fields) (regular_after h f)

-- a header by its parts
by_parts : (h g : Head) → h.method ≡ g.method → h.scheme ≡ g.scheme → h.authority ≡ g.authority → h.path ≡ g.path → h.status ≡ g.status → h.protocol ≡ g.protocol → h.regular ≡ g.regular → h ≡ g
by_parts h g method scheme authority path status protocol regular =
    ap (λ x. record { method = x; scheme = h.scheme; authority = h.authority; path = h.path; status = h.status; protocol = h.protocol; regular = h.regular }) method
    ∙ ap (λ x. record { method = g.method; scheme = x; authority = h.authority; path = h.path; status = h.status; protocol = h.protocol; regular = h.regular }) scheme
    ∙ ap (λ x. record { method = g.method; scheme = g.scheme; authority = x; path = h.path; status = h.status; protocol = h.protocol; regular = h.regular }) authority
    ∙ ap (λ x. record { method = g.method; scheme = g.scheme; authority = g.authority; path = x; status = h.status; protocol = h.protocol; regular = h.regular }) path
    ∙ ap (λ x. record { method = g.method; scheme = g.scheme; authority = g.authority; path = g.path; status = x; protocol = h.protocol; regular = h.regular }) status
    ∙ ap (λ x. record { method = g.method; scheme = g.scheme; authority = g.authority; path = g.path; status = g.status; protocol = x; regular = h.regular }) protocol
    ∙ ap (λ x. record { method = g.method; scheme = g.scheme; authority = g.authority; path = g.path; status = g.status; protocol = g.protocol; regular = x }) regular

text_told : (part : Head → Option (List ℕ)) (name : List ℕ) → IsPartOf part (λ v. v) name → part (trailer_head []) ≡ None → (fields : List Field) → part (head_of_fields fields) ≡ last_value name fields
text_told part name is none fields = part_from part (λ v. v) name is (trailer_head []) None fields none ∙ same_value (last_value name fields)

-- **The header that a list reads as is the one in the list.**
pub header_read : (fields : List Field) → head_of_fields fields ≡ header_in fields
header_read fields =
    by_parts (head_of_fields fields) (header_in fields)
    (text_told (λ h. h.method) (codes ":method") method_is refl fields)
    (text_told (λ h. h.scheme) (codes ":scheme") scheme_is refl fields)
    (text_told (λ h. h.authority) (codes ":authority") authority_is refl fields)
    (part_from (λ h. h.path) without_fragment (codes ":path") path_is (trailer_head []) None fields refl)
    (status_told fields)
    (text_told (λ h. h.protocol) (codes ":protocol") protocol_is refl fields)
    (regular_from (trailer_head []) fields)

-- who sends a header, and who reads it
pub read_by_other : (side : Side) (h : Head) → is_for (other side) h ≡ is_sent_by side h
read_by_other Client h = refl
read_by_other Server h = refl

-- tests of a list
none_first : (a b : Bool) → (a || b) ≡ false → a ≡ false
none_first true b h = h
none_first false b h = refl

none_rest : (a b : Bool) → (a || b) ≡ false → b ≡ false
none_rest true b h = absurd (cc)
none_rest false b h = h

none_in : {X : Type 0} (p : X → Bool) (l m : List X) → list_any p (l ++ m) ≡ false → (list_any p l ≡ false) × (list_any p m ≡ false)
none_in p [] m h = (refl, h)
none_in p (x ∷ l) m h =
    let rest = none_in p l m (none_rest (p x) (list_any p (l ++ m)) h) in
    (ap (λ b. b || list_any p l) (none_first (p x) (list_any p (l ++ m)) h) ∙ rest.0, rest.1)

six_none : (a b c d e g : Bool) → a ≡ false → b ≡ false → c ≡ false → d ≡ false → e ≡ false → g ≡ false → (a || b || c || d || e || g) ≡ false
six_none true b c d e g ha hb hc hd he hg = cc
six_none false true c d e g ha hb hc hd he hg = cc
six_none false false true d e g ha hb hc hd he hg = cc
six_none false false false true e g ha hb hc hd he hg = cc
six_none false false false false true g ha hb hc hd he hg = cc
six_none false false false false false g ha hb hc hd he hg = hg

-- one of six that holds
second_holds : (a c d e g : Bool) → (a || true || c || d || e || g) ≡ true
second_holds true c d e g = refl
second_holds false c d e g = refl

third_holds : (a b d e g : Bool) → (a || b || true || d || e || g) ≡ true
third_holds true b d e g = refl
third_holds false true d e g = refl
third_holds false false d e g = refl

fourth_holds : (a b c e g : Bool) → (a || b || c || true || e || g) ≡ true
fourth_holds true b c e g = refl
fourth_holds false true c e g = refl
fourth_holds false false true e g = refl
fourth_holds false false false e g = refl

fifth_holds : (a b c d g : Bool) → (a || b || c || d || true || g) ≡ true
fifth_holds true b c d g = refl
fifth_holds false true c d g = refl
fifth_holds false false true d g = refl
fifth_holds false false false true g = refl
fifth_holds false false false false g = refl

sixth_holds : (a b c d e : Bool) → (a || b || c || d || e || true) ≡ true
sixth_holds true b c d e = refl
sixth_holds false true c d e = refl
sixth_holds false false true d e = refl
sixth_holds false false false true e = refl
sixth_holds false false false false true = refl
sixth_holds false false false false false = refl

-- a header with one more field
pseudo_after : (h : Head) (f : Field) → has_pseudo (with_field h f) ≡ (is_pseudo f || has_pseudo h)
unfolding kind_of
pseudo_after h f =
    by_names (bytes_eq f.name (codes ":method")) (bytes_eq f.name (codes ":scheme")) (bytes_eq f.name (codes ":authority")) (bytes_eq f.name (codes ":path")) (bytes_eq f.name (codes ":status"))
    (bytes_eq f.name (codes ":protocol"))
  where
    by_names : (a b c d e g : Bool)
        → has_pseudo (with_kind (if a then Method else (if b then Scheme else (if c then Authority else (if d then Path else (if e then Status else (if g then Protocol else Regular)))))) h f)
        ≡ ((a || (b || (c || (d || (e || (g || false)))))) || has_pseudo h)
    by_names true b c d e g = refl
    by_names false true c d e g = second_holds (is_some h.method) (is_some h.authority) (is_some h.path) (is_some h.status) (is_some h.protocol)
    by_names false false true d e g = third_holds (is_some h.method) (is_some h.scheme) (is_some h.path) (is_some h.status) (is_some h.protocol)
    by_names false false false true e g = fourth_holds (is_some h.method) (is_some h.scheme) (is_some h.authority) (is_some h.status) (is_some h.protocol)
    by_names false false false false true g = fifth_holds (is_some h.method) (is_some h.scheme) (is_some h.authority) (is_some h.path) (is_some h.protocol)
    by_names false false false false false true = sixth_holds (is_some h.method) (is_some h.scheme) (is_some h.authority) (is_some h.path) (is_some h.status)
    by_names false false false false false false = refl

one_first : (l p h : Bool) → (l || (p || h)) ≡ ((p || l) || h)
one_first true true h = refl
one_first true false h = refl
one_first false true h = refl
one_first false false h = refl

pseudo_from : (h : Head) (fields : List Field) → has_pseudo (fold with_field h fields) ≡ (list_any is_pseudo fields || has_pseudo h)
pseudo_from h [] = refl
pseudo_from h (f ∷ fields) =
    pseudo_from (with_field h f) fields ∙ ap (λ b. list_any is_pseudo fields || b) (pseudo_after h f) ∙ one_first (list_any is_pseudo fields) (is_pseudo f) (has_pseudo h)

or_none : (b : Bool) → (b || false) ≡ b
or_none true = refl
or_none false = refl

-- **A list has a pseudo-header field where its header has one.**
pub pseudo_read : (fields : List Field) → has_pseudo (head_of_fields fields) ≡ list_any is_pseudo fields
pseudo_read fields = pseudo_from (trailer_head []) fields ∙ or_none (list_any is_pseudo fields)

none_optional : (word : List ℕ) (o : Option (List ℕ)) → ((v : List ℕ) → is_pseudo (plain_field word v) ≡ true) → list_any is_pseudo (optional_field word o) ≡ false → is_some o ≡ false
none_optional word None is none = refl
none_optional word (Some v) is none = never (is_pseudo (plain_field word v)) (none_first (is_pseudo (plain_field word v)) false none) (is v)

none_mapped : {X Y : Type 0} (g : X → Y) (o : Option X) → is_some (option_map g o) ≡ false → is_some o ≡ false
none_mapped g None h = refl
none_mapped g (Some x) h = h

-- **A header whose fields have none has none.**
pub has_none : (h : Head) → list_any is_pseudo (head_fields h) ≡ false → has_pseudo h ≡ false
has_none h none =
    let pseudo = (none_in is_pseudo (pseudo_fields h.method h.scheme h.authority h.path h.status h.protocol) (regular_fields h.regular) none).0 in
    let to_scheme = optional_field (codes ":method") h.method ++ optional_field (codes ":scheme") h.scheme in
    let to_authority = to_scheme ++ optional_field (codes ":authority") h.authority in
    let to_path = to_authority ++ optional_field (codes ":path") (option_map or_slash h.path) in
    let to_status = to_path ++ optional_field (codes ":status") (option_map code_digits h.status) in
    let e = none_in is_pseudo to_status (optional_field (codes ":protocol") h.protocol) pseudo in
    let d = none_in is_pseudo to_path (optional_field (codes ":status") (option_map code_digits h.status)) e.0 in
    let c = none_in is_pseudo to_authority (optional_field (codes ":path") (option_map or_slash h.path)) d.0 in
    let b = none_in is_pseudo to_scheme (optional_field (codes ":authority") h.authority) c.0 in
    let a = none_in is_pseudo (optional_field (codes ":method") h.method) (optional_field (codes ":scheme") h.scheme) b.0 in
    six_none (is_some h.method) (is_some h.scheme) (is_some h.authority) (is_some h.path) (is_some h.status) (is_some h.protocol)
    (none_optional (codes ":method") h.method (λ v. refl) a.0) (none_optional (codes ":scheme") h.scheme (λ v. refl) a.1) (none_optional (codes ":authority") h.authority (λ v. refl) b.1)
    (none_mapped or_slash h.path (none_optional (codes ":path") (option_map or_slash h.path) (λ v. refl) c.1))
    (none_mapped code_digits h.status (none_optional (codes ":status") (option_map code_digits h.status) (λ v. refl) d.1))
    (none_optional (codes ":protocol") h.protocol (λ v. refl) e.1)
