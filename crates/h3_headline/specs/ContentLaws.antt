-- What a flow carries, what was handed out of it, and what one step changes of both.
use Rattle.std.proofs.Common.{◌≡◌, [], refl, Option, Some, None, ℕ, ◌-◌, List, ◌∷◌, ap, ◌++◌, ◌∙◌, zero, suc, append_assoc, sym, Bool, true, false, append-nil, ◌<◌, length, arith, ◌≤◌, ◌⊎◌, inl, inr, subst}
use Rattle.h3_world.specs.Flow.{Part, Flow}
use Rattle.h3_world.specs.Flow.Part.{Interim, Head, Body, Trailer, End}
use Rattle.std.specs.Prelude.{map, take, slice_get, ◌||◌, ◌&&◌, nat_lt}
use Rattle.std.proofs.lemmas.List.{map-append, take-append-le}
use Rattle.h3_world.specs.Order.{is_over, is_end, next_part}
use Rattle.h3_world.specs.Sound.{OutOfNext}
use Rattle.std.proofs.lemmas.Grind.{flat_map-append}
use Rattle.std.proofs.lemmas.List.Folds.{list_any-append}
use Rattle.h3_world.specs.Sending.{appended}
use Rattle.h3_headline.specs.Contents.{HasSameParts, Moves, contents, has_end, out, out_of, part_contents, piece_of}
use Rattle.h3_headline.specs.Handing.{Begins}
use Rattle.h3_headline.specs.Exactly.{IsAllOf, IsExactly, Reader, as_listed}
use Rattle.h3_headline.specs.Messages.{IsFrontOf, MessageContent}
use Rattle.h3_headline.specs.Messages.MessageContent.{Byte}

pub none_of_piece : (o : Option Part) → piece_of 0 o ≡ []
none_of_piece None = refl
none_of_piece (Some (Interim s)) = refl
none_of_piece (Some (Head s)) = refl
none_of_piece (Some (Body bytes own)) = refl
none_of_piece (Some (Trailer s)) = refl
none_of_piece (Some End) = refl

-- bytes are what they are
pub bytes_are : (r : Reader) (bytes : List ℕ) → IsAllOf (IsExactly r) (map Byte bytes) (map Byte bytes)
bytes_are r [] = tt
bytes_are r (b ∷ bytes) = (refl, bytes_are r bytes)

-- and they go out as they are
pub bytes_listed : (bytes : List ℕ) → map Byte bytes ≡ map as_listed (map Byte bytes)
bytes_listed [] = refl
bytes_listed (b ∷ bytes) = ap (λ l. Byte b ∷ l) (bytes_listed bytes)

-- one after the other
pub all_joined : (r : Reader) (given sent more others : List MessageContent) → IsAllOf (IsExactly r) given sent → IsAllOf (IsExactly r) more others → IsAllOf (IsExactly r) (given ++ more) (sent ++ others)
all_joined r [] [] more others h k = k
all_joined r (c ∷ given) (d ∷ sent) more others h k = (h.0, all_joined r given sent more others h.1 k)
all_joined r [] (d ∷ sent) more others h k = absurd h
all_joined r (c ∷ given) [] more others h k = absurd h

-- all of a front is a front
pub front_of_all : (r : Reader) (given front rest : List MessageContent) → IsAllOf (IsExactly r) given front → IsFrontOf (IsExactly r) given (front ++ rest)
front_of_all r [] [] rest h = tt
front_of_all r (c ∷ given) (d ∷ front) rest h = (h.0, front_of_all r given front rest h.1)
front_of_all r [] (d ∷ front) rest h = absurd h
front_of_all r (c ∷ given) [] rest h = absurd h

-- a piece of the body is a front of the next part
piece_front : (n : ℕ) (bytes : List ℕ) → Begins (map Byte (take n bytes)) (map Byte bytes)
piece_front zero bytes = record { rest = map Byte bytes; is = refl }
piece_front (suc n) [] = record { rest = []; is = refl }
piece_front (suc n) (b ∷ bytes) =
    let r = piece_front n bytes in
    record { rest = r.rest; is = ap (λ l. Byte b ∷ l) r.is }

part_front : (n : ℕ) (p : Part) (more : List MessageContent) → Begins (piece_of n (Some p)) (part_contents p ++ more)
part_front n (Interim s) more = record { rest = part_contents (Interim s) ++ more; is = refl }
part_front n (Head s) more = record { rest = part_contents (Head s) ++ more; is = refl }
part_front n (Trailer s) more = record { rest = part_contents (Trailer s) ++ more; is = refl }
part_front n End more = record { rest = more; is = refl }
part_front n (Body bytes own) more =
    let r = piece_front n bytes in
    record { rest = r.rest ++ more; is = ap (λ l. l ++ more) r.is ∙ append_assoc (map Byte (take n bytes)) r.rest more }

-- **What is out is a front of what was sent.**
pub out_front : (n b : ℕ) (parts : List Part) → Begins (out_of parts n b) (contents parts)
out_front zero b [] = record { rest = []; is = refl }
out_front (suc n) b [] = record { rest = []; is = refl }
out_front zero b (p ∷ ps) = part_front b p (contents ps)
out_front (suc n) b (p ∷ ps) =
    let r = out_front n b ps in
    record {
      rest = r.rest;
      is =
          ap (λ l. part_contents p ++ l) r.is
          ∙ sym (append_assoc (part_contents p) (out_of ps n b) r.rest)
          ∙ ap (λ l. l ++ r.rest) (sym (append_assoc (part_contents p) (contents (take n ps)) (piece_of b (slice_get ps n))));
    }

or_assoc : (a b c : Bool) → ((a || b) || c) ≡ (a || (b || c))
or_assoc true b c = refl
or_assoc false b c = refl

or_false : (a : Bool) → a ≡ (a || false)
or_false true = refl
or_false false = refl

ends_then : (over mid new first later : Bool) → ((over || first) ≡ true → mid ≡ true) → ((mid || later) ≡ true → new ≡ true) → (over || (first || later)) ≡ true → new ≡ true
ends_then over true new first later h k e = k refl
ends_then true false new first later h k e = cc (h refl)
ends_then false false new true later h k e = cc (h refl)
ends_then false false new false later h k e = k e

-- one step and then another
pub moves_then : (r : Reader) (f g h : Flow) (s t : List MessageContent) (a b : Bool) (p q : List MessageContent) (c d : Bool) → Moves r f g s a p c → Moves r g h t b q d
    → Moves r f h (s ++ t) (a || b) (p ++ q) (c || d)
moves_then r f g h s t a b p q c d first later =
    record {
      sent_is =
          later.sent_is ∙ ap (λ l. l ++ map as_listed t) first.sent_is ∙ append_assoc (contents f.sent) (map as_listed s) (map as_listed t)
          ∙ ap (λ l. contents f.sent ++ l) (sym (map-append as_listed s t));
      end_is = later.end_is ∙ ap (λ x. x || b) first.end_is ∙ or_assoc (has_end f.sent) a b;
      hands = record {
        came = first.hands.came ++ later.hands.came;
        more = later.hands.more ∙ ap (λ l. l ++ later.hands.came) first.hands.more ∙ append_assoc (out f) first.hands.came later.hands.came;
        is = all_joined r p first.hands.came q later.hands.came first.hands.is later.hands.is;
      };
      over_is = ends_then (is_over f) (is_over g) (is_over h) c d first.over_is later.over_is;
    }

pub stays : (r : Reader) (f g : Flow) (ending : Bool) → HasSameParts f g → (ending ≡ true → is_over f ≡ true) → Moves r f g [] false [] ending
stays r f g ending same ends =
    record {
      sent_is = ap contents same.sent ∙ sym (append-nil (contents f.sent));
      end_is = ap has_end same.sent ∙ or_false (has_end f.sent);
      hands = record {
        came = [];
        more =
            ap (λ l. out_of l g.parts_out g.body_out) same.sent ∙ ap (λ n. out_of f.sent n g.body_out) same.parts_out
            ∙ ap (out_of f.sent f.parts_out) same.body_out ∙ sym (append-nil (out f));
        is = tt;
      };
      over_is = λ e.
          ap (λ l. nat_lt 0 g.parts_out && is_end (slice_get l (g.parts_out - 1))) same.sent ∙ ap (λ n. nat_lt 0 n && is_end (slice_get f.sent (n - 1))) same.parts_out
          ∙ over (is_over f) ending ends e;
    }
  where
    over : (was ending : Bool) → (ending ≡ true → was ≡ true) → (was || ending) ≡ true → was ≡ true
    over true ending ends e = refl
    over false ending ends e = ends e

-- what is behind the end of a list does not matter before it
get_append : (parts more : List Part) (n : ℕ) → n < length parts → slice_get (parts ++ more) n ≡ slice_get parts n
get_append [] more n h = absurd (omega (arith, h))
get_append (p ∷ ps) more zero h = refl
get_append (p ∷ ps) more (suc n) h = get_append ps more n (omega (arith, h))

piece_append : (parts : List Part) (part : Part) (n b : ℕ) → n ≤ length parts → (slice_get parts n ≡ None → b ≡ 0) → piece_of b (slice_get (parts ++ part ∷ []) n) ≡ piece_of b (slice_get parts n)
piece_append [] part zero b h none = ap (λ m. piece_of m (Some part)) (none refl) ∙ none_of_piece (Some part)
piece_append [] part (suc n) b h none = absurd (omega (arith, h))
piece_append (p ∷ ps) part zero b h none = refl
piece_append (p ∷ ps) part (suc n) b h none = piece_append ps part n b (omega (arith, h)) none

over_append : (parts : List Part) (part : Part) (n : ℕ) → n ≤ length parts → (nat_lt 0 n && is_end (slice_get (parts ++ part ∷ []) (n - 1))) ≡ (nat_lt 0 n && is_end (slice_get parts (n - 1)))
over_append parts part zero h = refl
over_append parts part (suc n) h = ap (λ o. nat_lt 0 (suc n) && is_end o) (get_append parts (part ∷ []) (suc n - 1) (omega (arith, h)))

-- no bytes are out of a part that is not there
pub none_out : (f : Flow) → (f.body_out ≡ 0) ⊎ OutOfNext f (next_part f) → next_part f ≡ None → f.body_out ≡ 0
none_out f (inl h) e = h
none_out f (inr h) e = absurd (subst (OutOfNext f) e h)

-- One more part.
pub grows : (r : Reader) (f : Flow) (part : Part) (s : List MessageContent) (a : Bool) → f.parts_out ≤ length f.sent → (f.body_out ≡ 0) ⊎ OutOfNext f (next_part f) → part_contents part ≡ map as_listed s → is_end (Some part) ≡ a
    → Moves r f (appended f part) s a [] false
grows r f part s a within body is end =
    record {
      sent_is = flat_map-append part_contents f.sent (part ∷ []) ∙ ap (λ l. contents f.sent ++ l) (append-nil (part_contents part) ∙ is);
      end_is = list_any-append (λ p. is_end (Some p)) f.sent (part ∷ []) ∙ ap (λ b. has_end f.sent || b) (sym (or_false (is_end (Some part))) ∙ end);
      hands = record {
        came = [];
        more =
            ap (λ l. contents l ++ piece_of f.body_out (slice_get (f.sent ++ part ∷ []) f.parts_out)) (take-append-le f.parts_out f.sent (part ∷ []) within)
            ∙ ap (λ l. contents (take f.parts_out f.sent) ++ l) (piece_append f.sent part f.parts_out f.body_out within (none_out f body))
            ∙ sym (append-nil (out f));
        is = tt;
      };
      over_is = λ e. over_append f.sent part f.parts_out within ∙ or_false (is_over f) ∙ e;
    }
