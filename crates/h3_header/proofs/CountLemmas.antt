-- How many fields a head has.
use Rattle.std.proofs.Common.{◌≡◌, ℕ, ◌+◌, List, length, Option, Some, None, option_map, refl, ◌∙◌, ap, ap₂, arith}
use mir.Val.{bool_byte}
use Rattle.std.specs.Prelude.{Bool, is_some, codes, ◌++◌}
use Rattle.std.proofs.lemmas.List.{length-append, length-map}
use Rattle.http_header.specs.FieldValue.{FieldValue}
use Rattle.http_header.specs.HeaderMap.{Entries, pairs, value_count}
use Rattle.http_header.proofs.CountLemmas.{length-pairs}
use Rattle.http.specs.StatusCode.{code_digits}
use Rattle.http_uri.specs.Grammar.{or_slash}
use Rattle.h3_header.specs.Head.{to_field, optional_field, regular_fields, head_fields}
use Rattle.h3_header.specs.Parts.{fields_of_pseudo, head_of_parts}
use Rattle.h3_header.specs.declared.headers.pseudo.Pseudo.{Pseudo}

-- one where the part is there
abbrev pub present : {A : Type 0} → Option A → ℕ
present None = 0
present (Some x) = 1

pub byte_of : {A : Type 0} (b : Bool) (x : Option A) → b ≡ is_some x → bool_byte b ≡ present x
byte_of b None e = ap bool_byte e
byte_of b (Some x) e = ap bool_byte e

length-optional : (name : List ℕ) (x : Option (List ℕ)) → length (optional_field name x) ≡ present x
length-optional name None = refl
length-optional name (Some v) = refl

length-mapped : {A : Type 0} (name : List ℕ) (f : A → List ℕ) (x : Option A) → length (optional_field name (option_map f x)) ≡ present x
length-mapped name f None = refl
length-mapped name f (Some v) = refl

pub length-pseudo : (q : Pseudo)
    → length (fields_of_pseudo q) ≡ present q.method + present q.scheme + present q.authority + present q.path + present q.status + present q.protocol
length-pseudo q =
    let m = optional_field (codes ":method") q.method in
    let s = optional_field (codes ":scheme") q.scheme in
    let a = optional_field (codes ":authority") q.authority in
    let p = optional_field (codes ":path") (option_map or_slash q.path) in
    let n = optional_field (codes ":status") (option_map code_digits q.status) in
    let t = optional_field (codes ":protocol") q.protocol in
    let m1 = length-optional (codes ":method") q.method in
    let s1 = length-optional (codes ":scheme") q.scheme in
    let a1 = length-optional (codes ":authority") q.authority in
    let p1 = length-mapped (codes ":path") or_slash q.path in
    let n1 = length-mapped (codes ":status") code_digits q.status in
    let t1 = length-optional (codes ":protocol") q.protocol in
    let e1 = length-append m s in
    let e2 = length-append (m ++ s) a in
    let e3 = length-append (m ++ s ++ a) p in
    let e4 = length-append (m ++ s ++ a ++ p) n in
    let e5 = length-append (m ++ s ++ a ++ p ++ n) t in
    omega arith

-- the fields of a head are its pseudo-header fields and the values of its map
pub length-head : (q : Pseudo) (m : Entries FieldValue) → length (head_fields (head_of_parts q m)) ≡ length (fields_of_pseudo q) + value_count m
length-head q m =
    length-append (fields_of_pseudo q) (regular_fields m)
    ∙ ap₂ (λ (x y : ℕ). x + y) refl (length-map (pairs m) to_field ∙ length-pairs m)
