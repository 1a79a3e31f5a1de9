-- The prefix of a section stands for one required insert count and one base.
use Rattle.std.proofs.Common.{◌≡◌, ◌≢◌, ◌⊎◌, ◌==◌, inl, inr, ℕ, ◌≤◌, Bool, true, false, List, Ok, Err, refl, sym, ◌∙◌, arith, subst}
use Rattle.std.proofs.lemmas.Bool.{ne_eqb}
use Rattle.h3_field.specs.Reading.{Reading, Whole, Unfinished, Bad}
use Rattle.h3_field.specs.PrefixReading.{EncodedPrefix, prefix, IsPrefix, IsCount, IsBase}
use Rattle.h3_field.specs.PrefixAnswer.{AnswersPrefix, HasNoPrefix}
use Rattle.h3_field.specs.Errors.{decoder_parse}
use Rattle.h3_field.specs.declared.prefix_int.Error.TheVariants.{Overflow, UnexpectedEnd}
use Rattle.h3_field.specs.declared.decoder_error.DecoderError.TheVariants as decoder
use Rattle.h3_field.specs.declared.parse_error.ParseError.{ParseError}
use Rattle.h3_field.specs.declared.parse_error.ParseError.TheVariants.{Integer, String, InvalidPrefix, InvalidBase, OutOfMemory}
use Rattle.h3_qpack.specs.DecoderState.{DecoderState, count_capacity}
use Rattle.h3_qpack.specs.Meaning.{names_no_entry, is_allowed, HasPrefix, IsBadSection}
use Rattle.h3_qpack.specs.SectionAnswers.{IsRefusal}
use Rattle.h3_qpack.proofs.Counts.{one_count}

-- the prefix that a decoder read, and what it goes by
pub record Begun (r : DecoderState) (bytes new : List ℕ) (p : EncodedPrefix) (inserted capacity : ℕ) : Type 0 where
  pub whole : prefix bytes ≡ Whole p new
  pub inserted_is : inserted ≡ r.table.inserted
  pub capacity_is : capacity ≡ count_capacity r

pub prefix_read : (bytes new : List ℕ) (p : EncodedPrefix) → AnswersPrefix (prefix bytes) bytes new (Ok p) → prefix bytes ≡ Whole p new
prefix_read bytes new p h = from (prefix bytes) refl h
  where
    from : (r : Reading EncodedPrefix) → prefix bytes ≡ r → AnswersPrefix r bytes new (Ok p) → prefix bytes ≡ Whole p new
    from (Whole q rest) e (is, left) = let same : p ≡ q = cc in e ∙ rw (same, left) refl
    from Unfinished e h = absurd (cc)
    from Bad e h = absurd (cc)

count_is_one : (capacity inserted encoded a b : ℕ) → IsCount capacity inserted encoded a → IsCount capacity inserted encoded b → a ≡ b
count_is_one capacity inserted encoded a b (inl x) (inl y) = x.1 ∙ sym y.1
count_is_one capacity inserted encoded a b (inl x) (inr y) = absurd (omega (arith, x.0, y.0))
count_is_one capacity inserted encoded a b (inr x) (inl y) = absurd (omega (arith, x.0, y.0))
count_is_one capacity inserted encoded a b (inr x) (inr y) = one_count capacity inserted encoded a b x.1 y.1

both_parts : {A : Type 0} (v w : A) (r s : List ℕ) → Whole v r ≡ Whole w s → (v ≡ w) × (r ≡ s)
both_parts v w r s e = (cc, cc)

pub has_prefix : (r : DecoderState) (bytes new : List ℕ) (p : EncodedPrefix) (inserted capacity count base : ℕ) → Begun r bytes new p inserted capacity
    → is_allowed r p ≡ true → IsPrefix capacity inserted p count base → HasPrefix r bytes new count base
has_prefix r bytes new p inserted capacity count base b allowed is = record { encoded = p; whole = b.whole; allowed = allowed; is = rw (b.inserted_is, b.capacity_is) at is }

-- the prefix of a section without a table, to a decoder that checks counts
pub has_no_entry : (r : DecoderState) (bytes new : List ℕ) (p : EncodedPrefix) (inserted capacity : ℕ) → Begun r bytes new p inserted capacity
    → r.checks_count ≡ true → capacity ≡ 0 → names_no_entry p ≡ true → HasPrefix r bytes new 0 0
has_no_entry r bytes new p inserted capacity b checks none plain =
    let empty : count_capacity r ≡ 0 = sym b.capacity_is ∙ none in
    record { encoded = p; whole = b.whole; allowed = rw (checks, empty, plain) refl; is = inl (empty, refl, refl) }

begins_nowhere : (r : DecoderState) (bytes : List ℕ) → ((rest : List ℕ) (count base : ℕ) → HasPrefix r bytes rest count base → ⊥) → IsBadSection r bytes
begins_nowhere r bytes none = record { no_fields = λ count fields m. none m.rest count m.base m.begins; none_missing = λ count m. none m.rest count m.base m.begins }

-- any other there
pub no_other_prefix : (r : DecoderState) (bytes new : List ℕ) (p : EncodedPrefix) (inserted capacity : ℕ) → Begun r bytes new p inserted capacity
    → r.checks_count ≡ true → capacity ≡ 0 → names_no_entry p ≡ false → IsBadSection r bytes
no_other_prefix r bytes new p inserted capacity b checks none other = begins_nowhere r bytes (λ rest count base k. begins rest count base k)
  where
    refused : is_allowed r p ≡ false
    refused = let empty : count_capacity r ≡ 0 = sym b.capacity_is ∙ none in rw (checks, empty, other) refl

    begins : (rest : List ℕ) (count base : ℕ) → HasPrefix r bytes rest count base → ⊥
    begins rest count base k =
        let same = both_parts p k.encoded new rest (sym b.whole ∙ k.whole) in
        let taken : is_allowed r p ≡ true = subst (λ q. is_allowed r q ≡ true) (sym same.0) k.allowed in
        let both : true ≡ false = sym taken ∙ refused in
        cc

-- and wherever no such rule holds
pub is_allowed_else : (r : DecoderState) (p : EncodedPrefix) (checks : Bool) (capacity : ℕ) → checks ≡ r.checks_count → capacity ≡ count_capacity r → ((checks ≡ true) × (capacity ≢ 0)) ⊎ (checks ≡ false) → is_allowed r p ≡ true
is_allowed_else r p checks capacity same is (inl some) =
    let there : (count_capacity r == 0) ≡ false = ne_eqb (count_capacity r) 0 (λ e. some.1 (is ∙ e)) in
    rw (sym same ∙ some.0, there) refl
is_allowed_else r p checks capacity same is (inr off) = rw (sym same ∙ off) refl

-- a prefix that stands for no count and base
pub no_prefix : (r : DecoderState) (bytes new : List ℕ) (p : EncodedPrefix) (inserted capacity : ℕ) (e : ParseError) → Begun r bytes new p inserted capacity
    → HasNoPrefix capacity inserted p e → IsRefusal r bytes (decoder_parse e)
no_prefix r bytes new p inserted capacity (InvalidPrefix encoded) b h = begins_nowhere r bytes (λ rest count base k. none rest count base k)
  where
    of_count : (count : ℕ) → IsCount capacity inserted p.encoded count → ⊥
    of_count count (inl x) = omega (arith, x.0, h.2)
    of_count count (inr x) = h.3 count x.1

    of_prefix : (count base : ℕ) → IsPrefix capacity inserted p count base → ⊥
    of_prefix count base (inl x) = omega (arith, x.0, h.0)
    of_prefix count base (inr x) = of_count count x.1

    none : (rest : List ℕ) (count base : ℕ) → HasPrefix r bytes rest count base → ⊥
    none rest count base k =
        let same = both_parts p k.encoded new rest (sym b.whole ∙ k.whole) in
        let is = subst (λ q. IsPrefix (count_capacity r) r.table.inserted q count base) (sym same.0) k.is in
        of_prefix count base (rw (← b.inserted_is, ← b.capacity_is) at is)
no_prefix r bytes new p inserted capacity InvalidBase b h = begins_nowhere r bytes (λ rest count base k. none rest count base k)
  where
    of_base : (below : Bool) (count other base : ℕ) → below ≡ true → count ≤ p.delta → other ≡ count → IsBase below p.delta other base → ⊥
    of_base true count other base e le is k = omega (arith, le, is, k)
    of_base false count other base e le is k = absurd (cc)

    of_prefix : (count base : ℕ) → IsPrefix capacity inserted p count base → ⊥
    of_prefix count base (inl x) = omega (arith, x.0, h.0)
    of_prefix count base (inr x) = of_base p.is_negative h.2.0 count base h.1 h.2.2 (count_is_one capacity inserted p.encoded count h.2.0 x.1 h.2.1) x.2

    none : (rest : List ℕ) (count base : ℕ) → HasPrefix r bytes rest count base → ⊥
    none rest count base k =
        let same = both_parts p k.encoded new rest (sym b.whole ∙ k.whole) in
        let is = subst (λ q. IsPrefix (count_capacity r) r.table.inserted q count base) (sym same.0) k.is in
        of_prefix count base (rw (← b.inserted_is, ← b.capacity_is) at is)
no_prefix r bytes new p inserted capacity (Integer e) b h = absurd h
no_prefix r bytes new p inserted capacity (String e) b h = absurd h
no_prefix r bytes new p inserted capacity OutOfMemory b h = absurd h

-- no prefix is refused for want of memory
pub prefix_takes_none : (bytes new : List ℕ) (e : ParseError) → AnswersPrefix (prefix bytes) bytes new (Err e) → decoder_parse e ≡ decoder.OutOfMemory → ⊥
prefix_takes_none bytes new e h none = from (prefix bytes) h
  where
    from : (r : Reading EncodedPrefix) → AnswersPrefix r bytes new (Err e) → ⊥
    from (Whole p rest) k = cc
    from Unfinished k =
        let is : e ≡ Integer UnexpectedEnd = cc in
        let other = rw is at none in cc
    from Bad k =
        let is : e ≡ Integer Overflow = cc in
        let other = rw is at none in cc

pub count_takes_none : (capacity inserted : ℕ) (p : EncodedPrefix) (e : ParseError) → HasNoPrefix capacity inserted p e → decoder_parse e ≡ decoder.OutOfMemory → ⊥
count_takes_none capacity inserted p (InvalidPrefix encoded) h none = cc
count_takes_none capacity inserted p InvalidBase h none = cc
count_takes_none capacity inserted p (Integer x) h none = absurd h
count_takes_none capacity inserted p (String x) h none = absurd h
count_takes_none capacity inserted p OutOfMemory h none = absurd h
