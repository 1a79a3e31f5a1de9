-- The fields of a head's words.
use Rattle.std.proofs.Common.{◌≡◌, ℕ, ◌+◌, ◌<◌, List, [], ◌∷◌, ◌++◌, length, take, drop, get_or, Option, Some, None, refl, sym, ◌∙◌, ap, subst, arith}
use Rattle.std.specs.Borrow.{Bor}
use Rattle.std.proofs.lemmas.List.{take_more, drop_more, get_or-map, length-map}
use Rattle.http_header.specs.Token.{lowercase}
use Rattle.http_header.specs.FieldName.{IsFieldName, IsHeaderName}
use Rattle.http_header.specs.FieldValue.{FieldValue, plain_value, IsFieldValue}
use Rattle.http_header.specs.HeaderMap.{Entries, append, RefusesAppend}
use Rattle.http_header.proofs.TokenLemmas.{IsFieldName-from_lowercase}
use Rattle.h3_script.specs.Pieces.{cut, texts}
use Rattle.h3_script.specs.HeadText.{AddsField, AddsFields}

-- a word whose field was added
pub added : (old new : Entries FieldValue) (word name value held : List ℕ) (v : FieldValue) → Some (name, value) ≡ cut 61 word → held ≡ lowercase name → IsHeaderName held
    → v ≡ plain_value value → IsFieldValue v.bytes → ¬ (RefusesAppend old held) → new ≡ append old held v → AddsField old word new
added old new word name value held v parts is_name valid is_value holds room after =
    record {
      name = name;
      value = value;
      parts = sym parts;
      is_name = IsFieldName-from_lowercase name (subst IsFieldName is_name valid.0);
      is_value = subst IsFieldValue (ap (λ (v : FieldValue). v.bytes) is_value) holds;
      room = subst (λ n. ¬ (RefusesAppend old n)) is_name room;
      after = rw (← is_name, ← is_value) after;
    }

pair_one : (found : Option (List ℕ × List ℕ)) (a b x y : List ℕ) → found ≡ Some (a, b) → found ≡ Some (x, y) → (a ≡ x) × (b ≡ y)
pair_one found a b x y e f =
    let both : ◌≡◌ {A = Option (List ℕ × List ℕ)} (Some (a, b)) (Some (x, y)) = sym e ∙ f in
    let pairs : ◌≡◌ {A = List ℕ × List ℕ} (a, b) (x, y) = cc in
    (ap (λ (p : List ℕ × List ℕ). p.0) pairs, ap (λ (p : List ℕ × List ℕ). p.1) pairs)

-- a word has one name and one value
one_field : (old a : Entries FieldValue) (word name value : List ℕ) (f : AddsField old word a) → cut 61 word ≡ Some (name, value) → (f.name ≡ name) × (f.value ≡ value)
one_field old a word name value f c = pair_one (cut 61 word) f.name f.value name value f.parts c

-- a word that is not cut has none
pub no_parts : (old : Entries FieldValue) (word : List ℕ) → None ≡ cut 61 word → ((new : Entries FieldValue) × AddsField old word new) → ⊥
no_parts old word none (new, f) = let both : ◌≡◌ {A = Option (List ℕ × List ℕ)} None (Some (f.name, f.value)) = none ∙ f.parts in cc

-- a field that finds no room
pub no_room : (old : Entries FieldValue) (word name value held : List ℕ) → Some (name, value) ≡ cut 61 word → held ≡ lowercase name → RefusesAppend old held
    → ((new : Entries FieldValue) × AddsField old word new) → ⊥
no_room old word name value held parts is_name full (new, f) =
    let same = one_field old new word name value f (sym parts) in
    f.room (subst (RefusesAppend old) (is_name ∙ ap lowercase (sym same.0)) full)

-- a word adds one field
adds_one : (old a b : Entries FieldValue) (word : List ℕ) → AddsField old word a → AddsField old word b → a ≡ b
adds_one old a b word f g =
    let same = one_field old a word g.name g.value f g.parts in
    f.after ∙ rw (same.0, same.1) refl ∙ sym g.after

-- what holds of the words that were read: they added their fields, and what all words add is what the others add to those
pub record FieldsSoFar (words : List (List ℕ)) (i : ℕ) (m : Entries FieldValue) : Type 0 where
  pub front : AddsFields [] (take i words) m
  pub rest : (all : Entries FieldValue) → AddsFields [] words all → AddsFields m (drop i words) all

more_fields : (a m b : Entries FieldValue) (words : List (List ℕ)) (word : List ℕ) → AddsFields a words m → AddsField m word b → AddsFields a (words ++ word ∷ []) b
more_fields a m b [] word h f = (b, subst (λ x. AddsField x word b) h f, refl)
more_fields a m b (w ∷ words) word (mid, g, h) f = (mid, g, more_fields mid m b words word h f)

rest_fields : (m b all : Entries FieldValue) (words : List (List ℕ)) (word : List ℕ) → AddsField m word b → AddsFields m (word ∷ words) all → AddsFields b words all
rest_fields m b all words word f (mid, g, h) = subst (λ x. AddsFields x words all) (adds_one m mid b word g f) h

pub word_at : (refs : List (Bor (List ℕ))) (i : ℕ) (d : Bor (List ℕ)) → i < length refs → get_or (texts refs) i [] ≡ (get_or refs i d).now
word_at refs i d lt = get_or-map (λ (r : Bor (List ℕ)). r.now) refs i d [] lt

pub fields_more : (refs : List (Bor (List ℕ))) (i : ℕ) (d : Bor (List ℕ)) (m b : Entries FieldValue) → i < length refs → FieldsSoFar (texts refs) i m
    → AddsField m (get_or refs i d).now b → FieldsSoFar (texts refs) (i + 1) b
fields_more refs i d m b lt h f =
    let words = texts refs in
    let len : i < length words = omega (arith, length-map refs (λ (r : Bor (List ℕ)). r.now)) in
    let g : AddsField m (get_or words i []) b = subst (λ w. AddsField m w b) (sym (word_at refs i d lt)) f in
    record {
      front = subst (λ ws. AddsFields [] ws b) (sym (take_more words i [] len)) (more_fields [] m b (take i words) (get_or words i []) h.front g);
      rest = λ all whole. rest_fields m b all (drop (i + 1) words) (get_or words i []) g (subst (λ ws. AddsFields m ws all) (drop_more words i [] len) (h.rest all whole));
    }

-- where all words add fields, the next one does
pub field_next : (refs : List (Bor (List ℕ))) (i : ℕ) (d : Bor (List ℕ)) (m : Entries FieldValue) → i < length refs → FieldsSoFar (texts refs) i m
    → ((all : Entries FieldValue) × AddsFields [] (texts refs) all) → (new : Entries FieldValue) × AddsField m (get_or refs i d).now new
field_next refs i d m lt h (all, whole) =
    let words = texts refs in
    let len : i < length words = omega (arith, length-map refs (λ (r : Bor (List ℕ)). r.now)) in
    let rest = subst (λ ws. AddsFields m ws all) (drop_more words i [] len) (h.rest all whole) in
    (rest.0, subst (λ w. AddsField m w rest.0) (word_at refs i d lt) rest.1)

-- the words add one list of fields
pub fields_one : (a b c : Entries FieldValue) (words : List (List ℕ)) → AddsFields a words b → AddsFields a words c → b ≡ c
fields_one a b c [] h k = h ∙ sym k
fields_one a b c (w ∷ words) (x, f, h) (y, g, k) = fields_one y b c words (subst (λ m. AddsFields m words b) (adds_one a x y w f g) h) k
