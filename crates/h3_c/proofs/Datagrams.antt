-- What C gets of datagrams and capsules.
use Rattle.std.proofs.Common.{◌≡◌, ◌∙◌, ◌<◌, ◌≤◌, ◌^◌, ℕ, Bool, true, false, List, length, refl, sym, ap, subst}
use Rattle.std.specs.Prelude.{◌&&◌, ◌++◌, drop, nat_lt, if◌then◌else◌, Result}
use Rattle.std.proofs.lemmas.Bool.{lt-ltb, le-ltb}
use Rattle.h3_capsule.specs.Capsule.{Place, capsule_head, read_on}
use Rattle.h3_capsule.specs.ReaderStates.{place_of_state}
use Rattle.h3_capsule.specs.declared.capsule.Capsule.{Capsule}
use Rattle.h3_capsule.specs.declared.capsule.ReaderState.{ReaderState}
use Rattle.h3_session.specs.Datagrams.{ShowsDatagramHead}
use Rattle.h3_session.specs.declared.endpoint.datagrams.DatagramError.{DatagramError}
use Rattle.h3_c.specs.Datagrams.{Put, capsule_head_given, capsule_shown, head_given, put_head, GivesHead, ReadsCapsule}
use Rattle.h3_c.specs.declared.capsules.CapsuleTold.{CapsuleTold}
use Rattle.h3_c.specs.declared.numbers.Told.{Told}
use Rattle.h3_c.specs.Numbers.{argument, number, ok, room}
use Rattle.h3_c.specs.Seen.{Seen}

abbrev put : Told → List ℕ → ℕ → Put
put n buffer count = (n, buffer, count)

-- what stands in front of a payload, as every history says
pub gives_head : (v : Seen) (id stream : ℕ) (r : Result (List ℕ) DatagramError) (n : Told) (before after : List ℕ) (count count_after : ℕ) → stream ≡ id
    → ShowsDatagramHead v.endpoint stream r → put n after count_after ≡ head_given r before count → GivesHead v id n before after count count_after
gives_head v id stream r n before after count count_after same shows is =
    subst (λ i. GivesHead v i n before after count count_after) same (λ e h. is ∙ ap (λ x. head_given x before count) (shows e h))

-- no number stands beside that of a head that was written, or for which there is no room
plain_if : (b : Bool) (head buffer : List ℕ) (count : ℕ) (n : Told) (after : List ℕ) (count_after : ℕ)
    → put n after count_after ≡ (if b then put room buffer count else put ok (head ++ drop (length head) buffer) (length head))
    → put (number n.number 0) after count_after ≡ (if b then put room buffer count else put ok (head ++ drop (length head) buffer) (length head))
plain_if true head buffer count n after count_after is = ap (λ (p : Put). put (number p.0.number 0) p.1 p.2) is
plain_if false head buffer count n after count_after is = ap (λ (p : Put). put (number p.0.number 0) p.1 p.2) is

-- the type and the length are numbers below 2 ^ 62
given_if : (kind len : ℕ) (buffer : List ℕ) (count : ℕ) (a b : Bool) → nat_lt kind (2 ^ 62) ≡ a → nat_lt len (2 ^ 62) ≡ b
    → (if a && b then put_head (capsule_head kind len) buffer count else put argument buffer count) ≡ capsule_head_given kind len buffer count
given_if kind len buffer count a b is other =
    ap (λ x. if x && b then put_head (capsule_head kind len) buffer count else put argument buffer count) (sym is)
    ∙ ap (λ x. if nat_lt kind (2 ^ 62) && x then put_head (capsule_head kind len) buffer count else put argument buffer count) (sym other)

pub gives_capsule_head : (kind len : ℕ) (n : Told) (before after : List ℕ) (count count_after : ℕ) → kind < 2 ^ 62 → len < 2 ^ 62
    → put n after count_after ≡ put_head (capsule_head kind len) before count → put (number n.number 0) after count_after ≡ capsule_head_given kind len before count
gives_capsule_head kind len n before after count count_after below short is =
    plain_if (nat_lt (length before) (length (capsule_head kind len))) (capsule_head kind len) before count n after count_after is
    ∙ given_if kind len before count true true (lt-ltb kind (2 ^ 62) below) (lt-ltb len (2 ^ 62) short)

pub takes_no_type : (kind len : ℕ) (before : List ℕ) (count : ℕ) → 2 ^ 62 ≤ kind → put argument before count ≡ capsule_head_given kind len before count
takes_no_type kind len before count far = given_if kind len before count false (nat_lt len (2 ^ 62)) (le-ltb kind (2 ^ 62) far) refl

no_length : (a : Bool) (kind len : ℕ) (before : List ℕ) (count : ℕ) → put argument before count ≡ (if a && false then put_head (capsule_head kind len) before count else put argument before count)
no_length true kind len before count = refl
no_length false kind len before count = refl

pub takes_no_length : (kind len : ℕ) (before : List ℕ) (count : ℕ) → 2 ^ 62 ≤ len → put argument before count ≡ capsule_head_given kind len before count
takes_no_length kind len before count far =
    no_length (nat_lt kind (2 ^ 62)) kind len before count ∙ given_if kind len before count (nat_lt kind (2 ^ 62)) false refl (le-ltb len (2 ^ 62) far)

-- a reader is the one of its state, and leaves the state of what it is then
pub reads_capsule : (before after : ReaderState) (bytes : List ℕ) (used : ℕ) (capsule : Capsule) (shown : CapsuleTold) (old new : Place) → old ≡ place_of_state before
    → read_on old bytes ≡ (used, capsule, new) → place_of_state after ≡ new → shown ≡ capsule_shown capsule → ReadsCapsule before after bytes 0 used shown
reads_capsule before after bytes used capsule shown old new is reads left told =
    record {
      answer = capsule;
      reads = ap (λ place. read_on place bytes) (sym is) ∙ reads ∙ ap (λ place. let a : ℕ × Capsule × Place = (used, capsule, place) in a) (sym left);
      is = told;
      done = refl;
    }
