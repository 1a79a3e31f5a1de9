-- Fields whose bytes lie end to end.
use Rattle.std.proofs.Common.{◌≡◌, ◌≤◌, ℕ, zero, suc, ◌+◌, ◌*◌, ◌-◌, List, [], ◌∷◌, ◌++◌, length, take, drop, slice_get, refl, sym, ◌∙◌, ap, subst, arith, length-append, length-drop, Option, Some, unwrap_or, drop-drop, length-take-le, take_at, drop_at, append-nil}
use Rattle.std.specs.Prelude.{IfSome}
use Rattle.std.proofs.lemmas.List.{take-append-le, drop-append-le}
use Rattle.std.proofs.lemmas.List.Sums.{sum_by-cons}
use Rattle.h3_field.specs.Field.{Field, plain_field, field_size, section_size}
use Rattle.h3_table.specs.FieldRow.{FieldRow}
use Rattle.h3_table.specs.Records.{byte_count, first_field, fields_of, AreLaid}
use Rattle.h3_table.specs.declared.field_queue.Record.{Record}

pub length-fields_of : (bytes : List ℕ) (rs : List Record) → length (fields_of bytes rs) ≡ length rs
length-fields_of bytes [] = refl
length-fields_of bytes (r ∷ rs) = omega (arith, length-fields_of (drop (byte_count r) bytes) rs)

-- the size of the field whose bytes these begin with
pub first_size : (bytes : List ℕ) (r : Record) → byte_count r ≤ length bytes → field_size (first_field bytes r) ≡ byte_count r + 32
first_size bytes r le =
    omega (
      arith,
      length-take-le r.name_len bytes (omega (arith, le)),
      length-take-le r.value_len (drop r.name_len bytes) (omega (arith, le, length-drop r.name_len bytes)),
    )

-- how many bytes there are
pub laid_count : (place : ℕ) (bytes : List ℕ) (rs : List Record) → AreLaid place bytes rs → length bytes + 32 * length (fields_of bytes rs) ≡ section_size (fields_of bytes rs)
laid_count place bytes [] h = omega (arith, ap length h)
laid_count place bytes (r ∷ rs) h =
    let rest = drop (byte_count r) bytes in
    omega (
      arith,
      laid_count (place + byte_count r) rest rs h.1,
      h.0.within,
      length-drop (byte_count r) bytes,
      first_size bytes r h.0.within,
      sum_by-cons field_size (first_field bytes r) (fields_of rest rs),
    )

-- A record is of a field whose bytes lie behind so many.
pub record IsThere (place : ℕ) (bytes : List ℕ) (r : Record) (found : Option Field) : Type 0 where
  pub low : place ≤ r.place
  pub within : r.place - place + byte_count r ≤ length bytes
  pub static_name : IfSome r.static_name (λ name. name.now ≡ take r.name_len (drop (r.place - place) bytes))
  pub found_is : found ≡ Some (first_field (drop (r.place - place) bytes) r)

pub laid_at : (place : ℕ) (bytes : List ℕ) (rs : List Record) (i : ℕ) (r : Record) → AreLaid place bytes rs → slice_get rs i ≡ Some r → IsThere place bytes r (slice_get (fields_of bytes rs) i)
laid_at place bytes [] i r h at = cc
laid_at place bytes (s ∷ rs) zero r h at =
    let same : s ≡ r = ap (λ o. unwrap_or o s) at in
    let none : s.place - place ≡ 0 = omega (arith, h.0.at) in
    let here : IsThere place bytes s (Some (first_field bytes s)) = record {
      low = omega (arith, h.0.at);
      within = omega (arith, none, h.0.within);
      static_name = rw none h.0.static_name;
      found_is = rw none refl;
    } in
    subst (λ t. IsThere place bytes t (Some (first_field bytes s))) same here
laid_at place bytes (s ∷ rs) (suc i) r h at =
    let there = laid_at (place + byte_count s) (drop (byte_count s) bytes) rs i r h.1 at in
    let far : byte_count s + (r.place - (place + byte_count s)) ≡ r.place - place = omega (arith, there.low) in
    let same : drop (r.place - (place + byte_count s)) (drop (byte_count s) bytes) ≡ drop (r.place - place) bytes =
    drop-drop (r.place - (place + byte_count s)) (byte_count s) bytes ∙ ap (λ n. drop n bytes) far in
    record {
      low = omega (arith, there.low);
      within = omega (arith, there.low, there.within, h.0.within, length-drop (byte_count s) bytes);
      static_name = rw (← same) there.static_name;
      found_is = rw (← same) there.found_is;
    }

-- A record of a name and a value that are put in.
pub record IsNew (place : ℕ) (bytes name value : List ℕ) (r : Record) : Type 0 where
  pub at : r.place ≡ place + length bytes
  pub name_len : r.name_len ≡ length name
  pub value_len : r.value_len ≡ length value
  pub static_name : IfSome r.static_name (λ given. given.now ≡ name)

front : (name value : List ℕ) (n : ℕ) → n ≡ length name → take n (name ++ value) ≡ name
front name value n e = take_at name value n (sym e)

new_field : (name value : List ℕ) (r : Record) → r.name_len ≡ length name → r.value_len ≡ length value → first_field (name ++ value) r ≡ plain_field name value
new_field name value r n v =
    let back : drop r.name_len (name ++ value) ≡ value = drop_at name value r.name_len (sym n) in
    let whole : take r.value_len value ≡ value = ap (take r.value_len) (sym (append-nil value)) ∙ take_at value [] r.value_len (sym v) in
    rw (front name value r.name_len n, back, whole) refl

pub laid_push : (place : ℕ) (bytes name value : List ℕ) (rs : List Record) (r : Record) → AreLaid place bytes rs → IsNew place bytes name value r → AreLaid place (bytes ++ (name ++ value)) (rs ++ r ∷ [])
laid_push place bytes name value [] r h new =
    let empty : bytes ++ (name ++ value) ≡ name ++ value = ap (λ b. b ++ (name ++ value)) h in
    let len = length-append name value in
    let all : drop (byte_count r) (name ++ value) ≡ [] =
    ap (drop (byte_count r)) (sym (append-nil (name ++ value))) ∙ drop_at (name ++ value) [] (byte_count r) (omega (arith, len, new.name_len, new.value_len)) in
    rw empty (
      record {
        at = omega (arith, new.at, ap length h);
        within = omega (arith, len, new.name_len, new.value_len);
        static_name = rw (front name value r.name_len new.name_len) new.static_name;
      },
      all,
    )
laid_push place bytes name value (s ∷ rs) r h new =
    let rest = drop (byte_count s) bytes in
    let more = name ++ value in
    let same : drop (byte_count s) (bytes ++ more) ≡ rest ++ more = drop-append-le (byte_count s) bytes more h.0.within in
    let name_is : take s.name_len (bytes ++ more) ≡ take s.name_len bytes = take-append-le s.name_len bytes more (omega (arith, h.0.within)) in
    let next : IsNew (place + byte_count s) rest name value r = record {
      at = omega (arith, new.at, h.0.within, length-drop (byte_count s) bytes);
      name_len = new.name_len;
      value_len = new.value_len;
      static_name = new.static_name;
    } in (
      record {
        at = h.0.at;
        within = omega (arith, h.0.within, length-append bytes more);
        static_name = rw name_is h.0.static_name;
      },
      rw same (laid_push (place + byte_count s) rest name value rs r h.1 next),
    )

pub fields_push : (place : ℕ) (bytes name value : List ℕ) (rs : List Record) (r : Record) → AreLaid place bytes rs → IsNew place bytes name value r
    → fields_of (bytes ++ (name ++ value)) (rs ++ r ∷ []) ≡ fields_of bytes rs ++ plain_field name value ∷ []
fields_push place bytes name value [] r h new =
    let empty : bytes ++ (name ++ value) ≡ name ++ value = ap (λ b. b ++ (name ++ value)) h in
    ap (λ b. first_field b r ∷ []) empty ∙ ap (λ (f : Field). f ∷ []) (new_field name value r new.name_len new.value_len)
fields_push place bytes name value (s ∷ rs) r h new =
    let rest = drop (byte_count s) bytes in
    let more = name ++ value in
    let same : drop (byte_count s) (bytes ++ more) ≡ rest ++ more = drop-append-le (byte_count s) bytes more h.0.within in
    let name_is : take s.name_len (bytes ++ more) ≡ take s.name_len bytes = take-append-le s.name_len bytes more (omega (arith, h.0.within)) in
    let behind : drop s.name_len (bytes ++ more) ≡ drop s.name_len bytes ++ more = drop-append-le s.name_len bytes more (omega (arith, h.0.within)) in
    let value_is : take s.value_len (drop s.name_len bytes ++ more) ≡ take s.value_len (drop s.name_len bytes) =
    take-append-le s.value_len (drop s.name_len bytes) more (omega (arith, h.0.within, length-drop s.name_len bytes)) in
    let next : IsNew (place + byte_count s) rest name value r = record {
      at = omega (arith, new.at, h.0.within, length-drop (byte_count s) bytes);
      name_len = new.name_len;
      value_len = new.value_len;
      static_name = new.static_name;
    } in
    rw (same, name_is, behind, value_is) (ap (λ fs. first_field bytes s ∷ fs) (fields_push (place + byte_count s) rest name value rs r h.1 next))

pub row_with : (k then : FieldRow) (fields : List Field) → k.fields ≡ fields → k.written ≡ then.written → k.room ≡ then.room → k.places ≡ then.places → k ≡ record then { fields = fields }
row_with k then fields f w r p = λ i. record { fields = f i; written = w i; room = r i; places = p i }
