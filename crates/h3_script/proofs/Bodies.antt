-- Lines with a piece of a body.
use Rattle.std.proofs.Common.{◌≡◌, ℕ, ◌==◌, Bool, true, false, List, [], ◌∷◌, ◌++◌, codes, bytes_eq, Option, Some, None, option_map, option_and_then, Result, Ok, Err, IfErr, refl, sym, ◌∙◌, ap, subst, arith, if◌then◌else◌}
use Rattle.std.specs.List.{list_all}
use Rattle.std.proofs.lemmas.Bool.{and_parts, eqb-true, ne_eqb, leb-true}
use Rattle.std.proofs.lemmas.Slice.Eq.{bytes_eq-Decides}
use Rattle.h3_proto.specs.declared.stream.Side.{Side}
use Rattle.h3_proto.specs.declared.stream.Side.TheVariants.{Client, Server}
use Rattle.h3_script.specs.Pieces.{cut}
use Rattle.h3_script.specs.Words.{is_digit, number_of, id_of, side_of, below_2_62, words_of}
use Rattle.h3_script.specs.BodyLine.{body_by, behind_side, behind_command, body_in, body_of}
use Rattle.h3_script.specs.ScriptLine.{IsBody, SaysWords, SaysEvent, Denies}
use Rattle.h3_world.specs.declared.event.Event.{Event}
use Rattle.h3_world.specs.declared.event.Event.TheVariants as does
use Rattle.h3_script.specs.declared.error.LineError.{LineError}
use Rattle.h3_script.proofs.Denials.{denies_by}

-- what was cut is the two parts, and the byte between them
pub cut_joins : (at : ℕ) (xs : List ℕ) (parts : List ℕ × List ℕ) → cut at xs ≡ Some parts → xs ≡ parts.0 ++ at ∷ parts.1
cut_joins at [] parts h = cc
cut_joins at (x ∷ xs) parts h = joins_at (x == at) refl (cut at xs) h (cut_joins at xs)
  where
    joins_at : (b : Bool) → (x == at) ≡ b → (found : Option (List ℕ × List ℕ)) → (if b then Some ([], xs) else option_map (λ p. (x ∷ p.0, p.1)) found) ≡ Some parts
        → ((p : List ℕ × List ℕ) → found ≡ Some p → xs ≡ p.0 ++ at ∷ p.1) → x ∷ xs ≡ parts.0 ++ at ∷ parts.1
    joins_at true t found h more =
        let e : ◌≡◌ {A = List ℕ × List ℕ} ([], xs) parts = cc in
        ap (λ y. y ∷ xs) (eqb-true x at t) ∙ ap (λ (p : List ℕ × List ℕ). p.0 ++ at ∷ p.1) e
    joins_at false t None h more = cc
    joins_at false t (Some p) h more =
        let e : ◌≡◌ {A = List ℕ × List ℕ} (x ∷ p.0, p.1) parts = cc in
        ap (λ ys. x ∷ ys) (more p refl) ∙ ap (λ (p : List ℕ × List ℕ). p.0 ++ at ∷ p.1) e

-- no blank among the bytes
NoBlank : List ℕ → Type 0
NoBlank [] = Unit {0}
NoBlank (x ∷ xs) = ((x == 32) ≡ false) × NoBlank xs

-- a word is cut off at the blank behind it
cut_word : (word rest : List ℕ) → NoBlank word → cut 32 (word ++ 32 ∷ rest) ≡ Some (word, rest)
unfolding NoBlank
cut_word [] rest h = refl
cut_word (x ∷ word) rest h = rw h.0 (ap (λ found. option_map (λ parts. (x ∷ parts.0, parts.1)) found) (cut_word word rest h.1))

digit_no_blank : (x : ℕ) → is_digit x ≡ true → (x == 32) ≡ false
digit_no_blank x h = ne_eqb x 32 (λ same. omega (arith, same, leb-true 48 x (and_parts _ _ h).0))

digits_no_blank : (word : List ℕ) → list_all is_digit word ≡ true → NoBlank word
unfolding NoBlank
digits_no_blank [] h = tt
digits_no_blank (x ∷ word) h = let parts = and_parts (is_digit x) (list_all is_digit word) h in (digit_no_blank x parts.0, digits_no_blank word parts.1)

if_some : (b : Bool) (n m : ℕ) → (if b then Some n else None) ≡ Some m → b ≡ true
if_some true n m h = refl
if_some false n m h = cc

then_some : (f : ℕ → Option ℕ) (found : Option ℕ) (n : ℕ) → option_and_then f found ≡ Some n → (m : ℕ) × (found ≡ Some m)
then_some f None n h = cc
then_some f (Some m) n h = (m, refl)

id_no_blank : (word : List ℕ) (id : ℕ) → id_of word ≡ Some id → NoBlank word
id_no_blank word id h =
    let number = then_some below_2_62 (number_of word) id h in
    let tests = and_parts _ _ (if_some _ _ _ number.1) in
    digits_no_blank word (and_parts _ _ tests.1).0

side_no_blank : (word : List ℕ) (side : Side) → side_of word ≡ Some side → NoBlank word
unfolding NoBlank
side_no_blank word side h = side_at (bytes_eq word (codes "c")) refl (bytes_eq word (codes "s")) refl h
  where
    side_at : (b : Bool) → bytes_eq word (codes "c") ≡ b → (d : Bool) → bytes_eq word (codes "s") ≡ d
        → (if b then Some Client else (if d then Some Server else None)) ≡ Some side → NoBlank word
    side_at true t d u h = subst NoBlank (sym ((bytes_eq-Decides word (codes "c")).0 t)) (refl, tt)
    side_at false t true u h = subst NoBlank (sym ((bytes_eq-Decides word (codes "s")).0 u)) (refl, tt)
    side_at false t false u h = cc

-- a line with a piece of a body is cut into its side, its stream and its bytes
pub body_is : (line : List ℕ) (acting : Side) (stream : ℕ) (bytes : List ℕ) → IsBody line acting stream bytes → body_of line ≡ Some (acting, stream, bytes)
body_is line acting stream bytes h =
    let rest = h.id ++ 32 ∷ bytes in
    let second : cut 32 (h.side ++ 32 ∷ rest) ≡ Some (h.side, rest) = cut_word h.side rest (side_no_blank h.side acting h.side_is) in
    let third : cut 32 rest ≡ Some (h.id, bytes) = cut_word h.id bytes (id_no_blank h.id stream h.id_is) in
    let first : body_of line ≡ behind_command (cut 32 (h.side ++ 32 ∷ rest)) = ap body_of h.line_is in
    first ∙ ap behind_command second ∙ ap (behind_side h.side) third ∙ ap (λ s. body_by s (id_of h.id) bytes) h.side_is ∙ ap (λ i. body_by (Some acting) i bytes) h.id_is

by_parts : (side : Option Side) (id : Option ℕ) (rest bytes : List ℕ) (acting : Side) (stream : ℕ) → Some (acting, stream, bytes) ≡ body_by side id rest
    → (side ≡ Some acting) × (id ≡ Some stream) × (rest ≡ bytes)
by_parts None id rest bytes acting stream h = cc
by_parts (Some side) None rest bytes acting stream h = cc
by_parts (Some side) (Some id) rest bytes acting stream h =
    let e : ◌≡◌ {A = Side × ℕ × List ℕ} (side, id, rest) (acting, stream, bytes) = cc in
    (ap (λ (t : Side × ℕ × List ℕ). Some t.0) e, ap (λ (t : Side × ℕ × List ℕ). Some t.1) e, ap (λ (t : Side × ℕ × List ℕ). t.2) e)

side_parts : (side : List ℕ) (found : Option (List ℕ × List ℕ)) (t : Side × ℕ × List ℕ) → Some t ≡ behind_side side found
    → (p : List ℕ × List ℕ) × (found ≡ Some p) × (Some t ≡ body_by (side_of side) (id_of p.0) p.1)
side_parts side None t h = cc
side_parts side (Some p) t h = (p, refl, h)

command_parts : (found : Option (List ℕ × List ℕ)) (t : Side × ℕ × List ℕ) → Some t ≡ behind_command found
    → (p : List ℕ × List ℕ) × (found ≡ Some p) × (Some t ≡ behind_side p.0 (cut 32 p.1))
command_parts None t h = cc
command_parts (Some p) t h = (p, refl, h)

if_body : (b : Bool) (x : Option (Side × ℕ × List ℕ)) (t : Side × ℕ × List ℕ) → Some t ≡ (if b then x else None) → (b ≡ true) × (Some t ≡ x)
if_body true x t h = (refl, h)
if_body false x t h = cc

line_parts : (found : Option (List ℕ × List ℕ)) (t : Side × ℕ × List ℕ) → Some t ≡ body_in found
    → (p : List ℕ × List ℕ) × (found ≡ Some p) × (bytes_eq p.0 (codes "body") ≡ true) × (Some t ≡ behind_command (cut 32 p.1))
line_parts None t h = cc
line_parts (Some p) t h =
    let both = if_body (bytes_eq p.0 (codes "body")) (behind_command (cut 32 p.1)) t h in
    (p, refl, both.0, both.1)

-- what is cut so is a line with a piece of a body
pub is_body : (line : List ℕ) (acting : Side) (stream : ℕ) (bytes : List ℕ) → Some (acting, stream, bytes) ≡ body_of line → IsBody line acting stream bytes
is_body line acting stream bytes h =
    let a = line_parts (cut 32 line) (acting, stream, bytes) h in
    let b = command_parts (cut 32 a.0.1) (acting, stream, bytes) a.3 in
    let c = side_parts b.0.0 (cut 32 b.0.1) (acting, stream, bytes) b.2 in
    let d = by_parts (side_of b.0.0) (id_of c.0.0) c.0.1 bytes acting stream c.2 in
    record {
      side = b.0.0;
      id = c.0.0;
      line_is = cut_joins 32 line a.0 a.1 ∙ ap (λ w. w ++ 32 ∷ a.0.1) ((bytes_eq-Decides a.0.0 (codes "body")).0 a.2)
          ∙ ap (λ r. codes "body " ++ r) (cut_joins 32 a.0.1 b.0 b.1 ∙ ap (λ r. b.0.0 ++ 32 ∷ r) (cut_joins 32 b.0.1 c.0 c.1 ∙ ap (λ r. c.0.0 ++ 32 ∷ r) d.2));
      side_is = d.0;
      id_is = d.1;
    }

-- where the line has no piece of a body, its words say the event
pub says_words : (line : List ℕ) → None ≡ body_of line → ((e : Event) × SaysEvent line e) → (e : Event) × SaysWords (words_of line) e
says_words line none (does.OpenRequest side, h) = (does.OpenRequest side, h)
says_words line none (does.Head side id head, h) = (does.Head side id head, h)
says_words line none (does.Fields side id fields, h) = absurd h
says_words line none (does.Body side id bytes, h) = let no : ◌≡◌ {A = Option (Side × ℕ × List ℕ)} None (Some (side, id, bytes)) = none ∙ body_is line side id bytes h in cc
says_words line none (does.Trailer side id trailer, h) = (does.Trailer side id trailer, h)
says_words line none (does.TrailerFields side id fields, h) = absurd h
says_words line none (does.Finish side id, h) = (does.Finish side id, h)
says_words line none (does.Reset side id, h) = (does.Reset side id, h)
says_words line none (does.Cancel side id, h) = (does.Cancel side id, h)
says_words line none (does.Goaway side number, h) = (does.Goaway side number, h)
says_words line none (does.Deliver side id count, h) = (does.Deliver side id count, h)
says_words line none (does.DeliverEnd side id, h) = (does.DeliverEnd side id, h)
says_words line none (does.DeliverReset side id, h) = (does.DeliverReset side id, h)
says_words line none (does.Pull side id, h) = (does.Pull side id, h)
says_words line none (does.PullFields side id, h) = (does.PullFields side id, h)
says_words line none (does.Show side, h) = (does.Show side, h)

-- where the line has no piece of a body, and its words say no event, it says none
pub line_denied : (line : List ℕ) (words : List (List ℕ)) (r : Result Event LineError) → None ≡ body_of line → words ≡ words_of line
    → IfErr r (Denies ((e : Event) × SaysWords words e)) → IfErr r (Denies ((e : Event) × SaysEvent line e))
line_denied line words (Ok event) none is h = tt
line_denied line words (Err e) none is h = denies_by _ _ e (says_words line none) (subst (λ ws. Denies ((e : Event) × SaysWords ws e) e) is h)
