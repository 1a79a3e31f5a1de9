-- What a survey says behind one field more.
use Rattle.std.proofs.Common.{◌≡◌, ◌≢◌, ℕ, ◌+◌, ◌*◌, ◌%◌, ◌^◌, ◌<◌, Bool, true, false, not, ◌&&◌, ◌||◌, cond, eqb, List, [], ◌∷◌, ◌++◌, take, length, get_or, bit_or, codes, is_some, Some, None, ap, sym, refl, ◌∙◌, subst, arith}
use Rattle.std.specs.List.{list_any, list_all, slice_get}
use Rattle.std.proofs.lemmas.Bool.{eqb-true, false≢true}
use Rattle.std.proofs.lemmas.Bool.Decides.{nat_tests}
use Rattle.std.proofs.lemmas.Nat.Bits.{bit_at_set_same, bit_at_set_other}
use Rattle.std.specs.Int.{bit_at, w32}
use Rattle.std.proofs.lemmas.List.{take_more}
use Rattle.std.proofs.lemmas.Option.{get_or_from_slice_get, slice_get_within}
use Rattle.h3_field.specs.Field.{Field}
use Rattle.h3_messages.proofs.Names.{is_at, is_named, none_named}
use Rattle.h3_messages.proofs.Pushes.{value_push, value_none, any_push, all_push, repeats_push, order_push}
use Rattle.h3_messages.specs.Known.{text, place, known_of}
use Rattle.h3_messages.specs.Messages.{has_name, holds, value_of, is_pseudo, pseudo_first, is_word, has_space_around}
use Rattle.h3_messages.specs.Survey.{has, IsSeen, TakesName, TakesField, is_unknown_pseudo, is_wrong_te}
use Rattle.h3_messages.specs.declared.known.Known.{Known}
use Rattle.h3_messages.specs.declared.known.Known.TheVariants.{Te}
use Rattle.h3_messages.specs.declared.name_set.NameSet.{NameSet}
use Rattle.h3_messages.specs.declared.seen.Seen.{Seen}

-- the value of a name
keeps_first : (there : Bool) (v more : List ℕ) (is : Bool) → (there ≡ false → v ≡ []) → cond there v (cond is more v) ≡ cond there v (cond is more [])
keeps_first true v more is none = refl
keeps_first false v more is none = ap (cond is more) (none refl)

value_step : (name : List ℕ) (fields : List Field) (f : Field) (there : Bool) (v w : List ℕ) → v ≡ value_of name fields → there ≡ holds name fields → w ≡ cond there v (cond (has_name name f) f.value v) → w ≡ value_of name (fields ++ f ∷ [])
value_step name fields f there v w is has takes =
    takes
    ∙ (ap (λ t. cond t v (cond (has_name name f) f.value v)) has
    ∙ (ap (λ x. cond (holds name fields) x (cond (has_name name f) f.value x)) is
    ∙ (keeps_first (holds name fields) (value_of name fields) f.value (has_name name f) (value_none name fields)
    ∙ sym (value_push name fields f))))

-- the flags
out_of_order : (before f any : Bool) → (not before || (f && any)) ≡ not (before && not (f && any))
out_of_order false f any = refl
out_of_order true false any = refl
out_of_order true true false = refl
out_of_order true true true = refl

wrong_te : (before has word : Bool) → (not before || (has && not word)) ≡ not (before && (not has || word))
wrong_te false has word = refl
wrong_te true false word = refl
wrong_te true true false = refl
wrong_te true true true = refl

pub seen_step : (fields : List Field) (f : Field) (a b : Seen) → IsSeen fields a → TakesField f a b → IsSeen (fields ++ f ∷ []) b
seen_step fields f a b is takes = record {
  values = λ k d. value_step (text k) fields f _ _ _ (is.values k d) (is.there k) ((takes.names k).value d);
  there = λ k. (takes.names k).there ∙ (ap (λ there. there || has_name (text k) f) (is.there k) ∙ sym (any_push (has_name (text k)) fields f));
  repeated = λ k.
      (takes.names k).repeated
      ∙ (ap (λ there. has k a.repeated || (there && has_name (text k) f)) (is.there k)
      ∙ (ap (λ twice. twice || (holds (text k) fields && has_name (text k) f)) (is.repeated k)
      ∙ sym (repeats_push (text k) fields f)));
  has_regular = takes.has_regular ∙ (ap (λ r. r || not (is_pseudo f)) is.has_regular ∙ sym (any_push (λ x. not (is_pseudo x)) fields f));
  is_out_of_order =
      takes.is_out_of_order
      ∙ (ap (λ o. o || (is_pseudo f && a.has_regular)) is.is_out_of_order
      ∙ (ap (λ r. not (pseudo_first fields) || (is_pseudo f && r)) is.has_regular
      ∙ (out_of_order (pseudo_first fields) (is_pseudo f) (list_any (λ x. not (is_pseudo x)) fields)
      ∙ ap not (sym (order_push fields f)))));
  pseudo_are_known = any_push is_unknown_pseudo fields f ∙ ap (λ u. u || is_unknown_pseudo f) is.pseudo_are_known ∙ takes.pseudo_is_known;
  has_wrong_te =
      takes.has_wrong_te
      ∙ (ap (λ w. w || is_wrong_te f) is.has_wrong_te
      ∙ (wrong_te (list_all (λ x. not (has_name (codes "te") x) || is_word (codes "trailers") x.value) fields) (has_name (codes "te") f) (is_word (codes "trailers") f.value)
      ∙ ap not (sym (all_push (λ x. not (has_name (codes "te") x) || is_word (codes "trailers") x.value) fields f))));
  has_spaced_value = takes.has_spaced_value ∙ (ap (λ s. s || has_space_around f) is.has_spaced_value ∙ sym (any_push has_space_around fields f));
}

-- the same in a loop
seen_more : (fields : List Field) (i : ℕ) (f : Field) (a b : Seen) → i < length fields → f ≡ get_or fields i f → IsSeen (take i fields) a → TakesField f a b → IsSeen (take (i + 1) fields) b
seen_more fields i f a b within is before takes =
    subst (λ l. IsSeen l b) (ap (λ x. take i fields ++ x ∷ []) is ∙ sym (take_more fields i f within)) (seen_step (take i fields) f a b before takes)

-- where the field is that of a place
pub seen_at : (fields : List Field) (i : ℕ) (f : Field) (a b : Seen) → slice_get fields i ≡ Some f → IsSeen (take i fields) a → TakesField f a b → IsSeen (take (i + 1) fields) b
seen_at fields i f a b at before takes = seen_more fields i f a b (slice_get_within fields i f at) (sym (get_or_from_slice_get fields i f f at)) before takes

same_value : (there : Bool) (v : List ℕ) → v ≡ cond there v v
same_value true v = refl
same_value false v = refl

no_more : (b : Bool) → b ≡ (b || false)
no_more true = refl
no_more false = refl

or_true : (b : Bool) → true ≡ (b || true)
or_true true = refl
or_true false = refl

no_second : (a b : Bool) → a ≡ (a || (b && false))
no_second true b = refl
no_second false true = refl
no_second false false = refl

-- what is seen of a name where the field's name was found
pub takes_named : (f : Field) (its : List ℕ) (known k : Known) (a b : Seen) → Some known ≡ known_of f.name → its ≡ f.value → TakesName (eqb (place k) (place known)) its k a b → TakesName (has_name (text k) f) f.value k a b
takes_named f its known k a b e v takes =
    subst (λ is. TakesName is f.value k a b) (ap (is_at (place k)) e ∙ sym (is_named f.name k)) (subst (λ x. TakesName (eqb (place k) (place known)) x k a b) v takes)

pub te_named : (f : Field) (its : List ℕ) (known : Known) (old new : Bool) → Some known ≡ known_of f.name → its ≡ f.value → new ≡ (old || (eqb 8 (place known) && not (is_word (codes "trailers") its))) → new ≡ (old || is_wrong_te f)
te_named f its known old new e v is =
    is
    ∙ (ap (λ has. old || (has && not (is_word (codes "trailers") its))) (ap (is_at 8) e ∙ sym (is_named f.name Te))
    ∙ ap (λ x. old || (has_name (codes "te") f && not (is_word (codes "trailers") x))) v)

not_unknown : (b : Bool) → (b && not true) ≡ false
not_unknown true = refl
not_unknown false = refl

pub unknown_named : (f : Field) (known : Known) → Some known ≡ known_of f.name → is_unknown_pseudo f ≡ false
unknown_named f known e = ap (λ o. is_pseudo f && not (is_some o)) (sym e) ∙ not_unknown (is_pseudo f)

keeps : (its : List ℕ) (k : Known) (a : Seen) → TakesName false its k a a
keeps its k a = record { value = λ d. same_value (has k a.there) _; there = no_more (has k a.there); repeated = no_second (has k a.repeated) (has k a.there) }

-- and where none was
pub takes_none : (f : Field) (k : Known) (a : Seen) → None ≡ known_of f.name → TakesName (has_name (text k) f) f.value k a a
takes_none f k a e = subst (λ is. TakesName is f.value k a a) (sym (none_named f.name (sym e) k)) (keeps f.value k a)

pub te_none : (f : Field) (old : Bool) → None ≡ known_of f.name → old ≡ (old || is_wrong_te f)
te_none f old e = no_more old ∙ ap (λ has. old || (has && not (is_word (codes "trailers") f.value))) (sym (none_named f.name (sym e) Te))

itself : (i : ℕ) → eqb i i ≡ true
itself i = grind (arith, nat_tests)

-- a set with one name more
set_by : (n i j : ℕ) (b : Bool) → i < 32 → eqb j i ≡ b → eqb (bit_at (bit_or n (1 * 2 ^ i % 2 ^ 32)) j) 1 ≡ (eqb (bit_at n j) 1 || b)
set_by n i j true within e =
    let same : j ≡ i = eqb-true j i e in
    ap (λ x. eqb (bit_at (bit_or n (1 * 2 ^ i % 2 ^ 32)) x) 1) same ∙ (ap (λ x. eqb x 1) (bit_at_set_same w32 n i within) ∙ or_true (eqb (bit_at n j) 1))
set_by n i j false within e =
    let other : j ≢ i = λ same. false≢true (sym e ∙ (ap (λ x. eqb x i) same ∙ itself i)) in
    ap (λ x. eqb x 1) (bit_at_set_other w32 n i within j other) ∙ no_more (eqb (bit_at n j) 1)

pub set_has : (names : NameSet) (known k : Known) (i : ℕ) → i ≡ place known → i < 32 → eqb (bit_at (bit_or names.bits (1 * 2 ^ i % 2 ^ 32)) (place k)) 1 ≡ (has k names || eqb (place k) (place known))
set_has names known k i is within = set_by names.bits i (place k) (eqb (place k) (place known)) within (ap (eqb (place k)) is)

-- the flags of a name with a colon ahead, and of one without
pub colon_regular : (b old new : Bool) → b ≡ true → new ≡ old → new ≡ (old || not b)
colon_regular true old new p e = e ∙ no_more old
colon_regular false old new p e = absurd (false≢true p)

pub colon_late : (b old regular new : Bool) → b ≡ true → new ≡ (old || regular) → new ≡ (old || (b && regular))
colon_late true old regular new p e = e
colon_late false old regular new p e = absurd (false≢true p)

pub plain_regular : (b old new : Bool) → b ≡ false → new ≡ true → new ≡ (old || not b)
plain_regular false old new p e = e ∙ or_true old
plain_regular true old new p e = absurd (false≢true (sym p))

pub plain_late : (b old regular new : Bool) → b ≡ false → new ≡ old → new ≡ (old || (b && regular))
plain_late false old regular new p e = e ∙ no_more old
plain_late true old regular new p e = absurd (false≢true (sym p))

pub plain_unknown : (f : Field) → is_pseudo f ≡ false → is_unknown_pseudo f ≡ false
plain_unknown f p = ap (λ b. b && not (is_some (known_of f.name))) p
