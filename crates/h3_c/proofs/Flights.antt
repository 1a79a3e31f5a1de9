-- What QUIC carries stands in the text of its stream, behind what came and in front of what waits. To a schedule it waits.
use Rattle.std.proofs.Common.{arith, ◌≡◌, ◌≤◌, ◌⊎◌, inl, inr, ℕ, zero, suc, ◌+◌, ◌-◌, ◌*◌, Bool, true, false, if◌then◌else◌, List, [], ◌∷◌, ◌++◌, length, drop, take, refl, sym, ap, subst, ◌∙◌, Option, Some, None, append_assoc, append-nil, length-append, take-append-drop}
use Rattle.std.specs.List.{AllByRecursion}
use Rattle.std.specs.Prelude.{◌==◌, ◌&&◌, ◌||◌, not, flat_map, option_map}
use Rattle.std.proofs.lemmas.Grind.{common_steps}
use Rattle.h3_field.specs.ReadBack.{AreBytes}
use Rattle.h3_proto.specs.declared.stream.Side.{Side}
use Rattle.h3_proto.specs.declared.stream.Side.TheVariants.{Client, Server}
use Rattle.h3_connection.specs.Endpoint.{EndpointHistory, Own, bytes_waiting}
use Rattle.h3_connection.specs.Order.{default_precedence}
use Rattle.h3_connection.specs.Outgoing.{Outgoing as Out, OwnPart, is_unended, is_unsent, last_is_trailer, nothing_sent, takes_end, takes_head, with_body, written_part}
use Rattle.h3_connection.specs.Outgoing.OwnPart.{OwnBody, OwnHead, OwnInterim, OwnTrailer}
use Rattle.h3_connection.specs.OwnIds.{control_id, decoder_id, encoder_id, is_own}
use Rattle.h3_connection.specs.Refusals.{SenderStream, seen as seen_of}
use Rattle.h3_connection.specs.Sending.{advance, advance_at, own_advanced}
use Rattle.h3_connection.specs.StreamSets.{set_stream, stream_at}
use Rattle.h3_connection.specs.StreamSetLaws.{set-here, set-other}
use Rattle.h3_c.proofs.Filling.{IsOfBytes, bytes_filled, filled_behind, filled_part, filled_parts, length_filled, parts_written, places, places_behind, places_of, trailer_stays, unsent_stays}
use Rattle.h3_c.proofs.Grows.{Grows, IsPlain, More, PartsGrow, StreamGrows, nothing_more, own_is, own_taken, own_text, part_bytes, taken_stays, texts_grow, waits_own}
use Rattle.h3_c.proofs.Unordered.{unordered, waits_of}
use Rattle.h3_c.proofs.Views.{IsSection, Keeps, View, at_seen, by_id, other_way, plain, seen, seen_absent, seen_as, seen_plainly, unordered_out}

-- Of a side of whose streams these bytes are carried, they do not count as taken. And of each body that it announced the bytes are known.
abbrev pub lagging : Side → (carried said : ℕ → List ℕ) → View
lagging side carried said = record {
  out = λ id o. record o { parts = filled_parts (said id) o.parts; taken = o.taken - length (carried id); end_taken = false; precedence = default_precedence };
  control = λ n. n - length (carried (control_id side));
  encoder = λ n. n - length (carried (encoder_id side));
  decoder = λ n. n - length (carried (decoder_id side));
}

pub none_less : (n : ℕ) → 0 - n ≡ 0
none_less n = omega arith

section_stays : (said : List ℕ) (part : OwnPart) → IsSection part → filled_part said part ≡ part
section_stays said (OwnInterim section) h = refl
section_stays said (OwnHead section) h = refl
section_stays said (OwnBody bytes) h = absurd h
section_stays said (OwnTrailer section) h = refl

section_behind : (said : List ℕ) (parts : List OwnPart) (part : OwnPart) → IsSection part → filled_parts said parts ++ part ∷ [] ≡ filled_parts said (parts ++ part ∷ [])
section_behind said parts part h =
    ap (λ p. filled_parts said parts ++ p ∷ []) (sym (section_stays (drop (places_of parts) said) part h)) ∙ sym (filled_behind said parts (part ∷ []))

body_behind : (said : List ℕ) (parts : List OwnPart) (bytes : List ℕ) → AreBytes bytes → filled_parts said parts ++ OwnBody bytes ∷ [] ≡ filled_parts said (parts ++ OwnBody bytes ∷ [])
body_behind said parts bytes all =
    ap (λ l. filled_parts said parts ++ OwnBody l ∷ []) (sym (bytes_filled bytes (drop (places_of parts) said) all)) ∙ sym (filled_behind said parts (OwnBody bytes ∷ []))

sees_alike : (b : Bool) (said : List ℕ) (o : Out) → seen_of b (record o { parts = filled_parts said o.parts }) ≡ seen_of b o
sees_alike b said o =
    ap (λ (x : Bool). let at : SenderStream = record { is_open = b; takes_head = is_unended o && x; takes_body = is_unended o && not x && not (last_is_trailer (filled_parts said o.parts)); takes_end = is_unended o && not x } in at) (unsent_stays said o.parts)
    ∙ ap (λ (x : Bool). let at : SenderStream = record { is_open = b; takes_head = takes_head o; takes_body = is_unended o && not (is_unsent o.parts) && not x; takes_end = takes_end o } in at) (trailer_stays said o.parts)

pub keeps_lagging : (side : Side) (carried said : ℕ → List ℕ) → Keeps (lagging side carried said)
keeps_lagging side carried said = record {
  new = λ id. ap (λ n. record nothing_sent { taken = n }) (none_less (length (carried id)));
  finished = λ id o. refl;
  reset = λ id o. refl;
  content = λ id o. refl;
  sender = λ id b o. sees_alike b (said id) o;
  part = λ id part o section. ap (λ l. record (as_seen id o) { parts = l }) (section_behind (said id) o.parts part section);
  said = λ id said o. refl;
  body = λ id bytes o all. ap (λ l. record (as_seen id (with_body o bytes)) { parts = l }) (body_behind (said id) o.parts bytes all);
  finish = λ id o. refl;
  with_reset = λ id o. refl;
}
  where
    as_seen : ℕ → Out → Out
    as_seen id o = (lagging side carried said).out id o

-- Of a text so much was taken, of which these are the last bytes.
pub record Flies (text : List ℕ) (taken : ℕ) (flying : List ℕ) : Type 0 where
  pub before : List ℕ
  pub rest : List ℕ
  pub is : text ≡ before ++ (flying ++ rest)
  pub count : taken ≡ length before + length flying

abbrev pub filled_out : List ℕ → Out → Out
filled_out said o = record o { parts = filled_parts said o.parts }

-- the text of a stream with all that was announced
abbrev pub filled_text : List ℕ → Out → List ℕ
filled_text said o = flat_map written_part (filled_parts said o.parts)

abbrev pub FliesAt : EndpointHistory → ℕ → Option Out → (said flying : List ℕ) → Type 0
FliesAt e id None said flying = Flies (own_text e id) (own_taken e id) flying
FliesAt e id (Some o) said flying = o.is_reset ≡ false → Flies (filled_text said o) o.taken flying

-- Of what was announced so much is in front of what waits, and the rest is owed.
abbrev pub OwesAt : Option Out → (said owed : List ℕ) → Type 0
OwesAt None said owed = (said ≡ []) × (owed ≡ [])
OwesAt (Some o) said owed = (places_of o.parts ≡ length said) × AllByRecursion IsOfBytes o.parts × (o.is_reset ≡ false → owed ≡ drop (places (take o.taken (part_bytes o))) said)

pub record Carries (side : Side) (carried said owed : ℕ → List ℕ) (e : EndpointHistory) : Type 0 where
  pub side_is : e.side ≡ side
  pub flies : (id : ℕ) → FliesAt e id (stream_at e.outgoing id) (said id) (carried id)
  pub owes : (id : ℕ) → OwesAt (stream_at e.outgoing id) (said id) (owed id)
  -- it said no priority, and opened no own stream
  pub silent : e.own.updates ≡ []
  pub apart : (id : ℕ) → is_own e.side id ≡ true → stream_at e.outgoing id ≡ None
  pub next : ℕ
  pub next_is : e.next_id ≡ 4 * next
  -- a client opened no stream from the next id on
  pub fresh : side ≡ Client → (id : ℕ) → e.next_id ≤ id → stream_at e.outgoing id ≡ None

-- lists
empty_left : {X : Type 0} (xs ys : List X) → [] ≡ xs ++ ys → xs ≡ []
empty_left [] ys is = refl
empty_left (x ∷ xs) ys is = absurd (let never : [] ≡ x ∷ (xs ++ ys) = is in cc)

empty_right : {X : Type 0} (xs ys : List X) → [] ≡ xs ++ ys → ys ≡ []
empty_right [] ys is = sym is
empty_right (x ∷ xs) ys is = absurd (let never : [] ≡ x ∷ (xs ++ ys) = is in cc)

pub drop_joined : (xs ys : List ℕ) → drop (length xs) (xs ++ ys) ≡ ys
drop_joined [] ys = refl
drop_joined (x ∷ xs) ys = drop_joined xs ys

pub take_joined : (xs ys : List ℕ) → take (length xs) (xs ++ ys) ≡ xs
take_joined [] ys = refl
take_joined (x ∷ xs) ys = ap (λ l. x ∷ l) (take_joined xs ys)

-- what waits: by the endpoint itself, and to a schedule
rest_waits : {text flying : List ℕ} {taken : ℕ} (f : Flies text taken flying) → drop taken text ≡ f.rest
rest_waits {text = text} {flying = flying} {taken = taken} f =
    ap (λ n. drop n text) (f.count ∙ sym (length-append f.before flying)) ∙ ap (λ l. drop (length (f.before ++ flying)) l) (f.is ∙ sym (append_assoc f.before flying f.rest))
    ∙ drop_joined (f.before ++ flying) f.rest

less : (a b t : ℕ) → t ≡ a + b → t - b ≡ a
less a b t is = omega (arith, is)

all_waits : {text flying : List ℕ} {taken : ℕ} (f : Flies text taken flying) → drop (taken - length flying) text ≡ flying ++ drop taken text
all_waits {text = text} {flying = flying} {taken = taken} f =
    ap (λ n. drop n text) (less (length f.before) (length flying) taken f.count) ∙ ap (λ l. drop (length f.before) l) f.is ∙ drop_joined f.before (flying ++ f.rest)
    ∙ ap (λ l. flying ++ l) (sym (rest_waits f))

less_if : (a b c : Bool) (m n o k l j : ℕ) (i : ℕ) → (a ≡ true → k ≡ i) → (b ≡ true → l ≡ i) → (c ≡ true → j ≡ i)
    → (if a then m - k else (if b then n - l else (if c then o - j else 0))) ≡ (if a then m else (if b then n else (if c then o else 0))) - i
less_if true b c m n o k l j i p q r = ap (λ x. m - x) (p refl)
less_if false true c m n o k l j i p q r = ap (λ x. n - x) (q refl)
less_if false false true m n o k l j i p q r = ap (λ x. o - x) (r refl)
less_if false false false m n o k l j i p q r = sym (none_less i)

at_id : (carried : ℕ → List ℕ) (q id : ℕ) → (id == q) ≡ true → length (carried q) ≡ length (carried id)
at_id carried q id is = by_id id q (λ b. b ≡ true → length (carried q) ≡ length (carried id)) (λ same here. ap (λ n. length (carried n)) (sym same)) (λ differs here. absurd (let never : false ≡ true = here in cc)) is

taken_seen : (carried said : ℕ → List ℕ) (e : EndpointHistory) (id : ℕ) → own_taken (seen (lagging e.side carried said) e) id ≡ own_taken e id - length (carried id)
taken_seen carried said e id =
    less_if (id == control_id e.side) (id == encoder_id e.side) (id == decoder_id e.side) e.own.control_taken e.own.encoder_taken e.own.decoder_taken _ _ _ (length (carried id))
    (at_id carried (control_id e.side) id) (at_id carried (encoder_id e.side) id) (at_id carried (decoder_id e.side) id)

-- The stream goes on.
abbrev pub IsUnreset : Option Out → Type 0
IsUnreset None = Unit {0}
IsUnreset (Some o) = o.is_reset ≡ false

waits_at : (carried said : ℕ → List ℕ) (e : EndpointHistory) (id : ℕ) (o : Option Out) → FliesAt e id o (said id) (carried id) → IsUnreset o
    → waits_of (seen (lagging e.side carried said) e) id (option_map ((lagging e.side carried said).out id) o) ≡ carried id ++ waits_of e id (option_map (filled_out (said id)) o)
waits_at carried said e id None f goes =
    waits_own (seen (lagging e.side carried said) e) id ∙ ap (λ n. drop n (own_text e id)) (taken_seen carried said e id) ∙ all_waits f ∙ ap (λ l. carried id ++ l) (sym (waits_own e id))
waits_at carried said e id (Some o) f goes =
    ap (λ b. if b then [] else drop (o.taken - length (carried id)) (filled_text (said id) o)) goes ∙ all_waits (f goes)
    ∙ ap (λ b. carried id ++ (if b then [] else drop o.taken (filled_text (said id) o))) (sym goes)

module _ (side : Side) (carried said owed : ℕ → List ℕ) (e : EndpointHistory) (k : Carries side carried said owed e) where
  pub carried_waits : (id : ℕ) → IsUnreset (stream_at e.outgoing id) → bytes_waiting (seen (lagging side carried said) e) id ≡ carried id ++ waits_of e id (option_map (filled_out (said id)) (stream_at e.outgoing id))
  carried_waits id goes =
      subst (λ s. bytes_waiting (seen (lagging s carried said) e) id ≡ carried id ++ waits_of e id (option_map (filled_out (said id)) (stream_at e.outgoing id))) k.side_is
      (ap (λ o. waits_of (seen (lagging e.side carried said) e) id o) (at_seen e.outgoing (lagging e.side carried said).out id) ∙ waits_at carried said e id (stream_at e.outgoing id) (k.flies id) goes)

-- More is written.
pub flies_more : {text longer flying : List ℕ} {taken now : ℕ} → Flies text taken flying → More text longer → now ≡ taken → Flies longer now flying
flies_more {flying = flying} f more now =
    record { before = f.before; rest = f.rest ++ more.more; is = more.is ∙ ap (λ l. l ++ more.more) f.is ∙ append_assoc f.before (flying ++ f.rest) more.more ∙ ap (λ l. f.before ++ l) (append_assoc flying f.rest more.more); count = now ∙ f.count }

none_if : (a b c : Bool) (x y z : List ℕ) → (a || b || c) ≡ false → (if a then x else (if b then y else (if c then z else []))) ≡ []
none_if true b c x y z h = absurd (let never : true ≡ false = h in cc)
none_if false true c x y z h = absurd (let never : true ≡ false = h in cc)
none_if false false true x y z h = absurd (let never : true ≡ false = h in cc)
none_if false false false x y z h = refl

pub no_text : (e : EndpointHistory) (id : ℕ) → is_own e.side id ≡ false → own_text e id ≡ []
no_text e id other = none_if (id == control_id e.side) (id == encoder_id e.side) (id == decoder_id e.side) _ _ _ other

flies_none : {text flying : List ℕ} {taken : ℕ} (f : Flies text taken flying) → text ≡ [] → flying ≡ []
flies_none {flying = flying} f none = empty_left flying f.rest (sym (empty_right f.before (flying ++ f.rest) (sym none ∙ f.is)))

four_more : (next n : ℕ) → n ≡ 4 * next → n + 4 ≡ 4 * (suc next)
four_more next n is = omega (arith, is)

pub more_text : (said : List ℕ) (o p : Out) → PartsGrow o p → More (filled_text said o) (filled_text said p)
more_text said o p g = record {
  more = flat_map written_part (filled_parts (drop (places_of o.parts) said) g.more);
  is = ap (λ l. flat_map written_part (filled_parts said l)) g.is ∙ ap (λ l. flat_map written_part l) (filled_behind said o.parts g.more)
      ∙ parts_joined (filled_parts said o.parts) (filled_parts (drop (places_of o.parts) said) g.more);
}
  where
    parts_joined : (parts more : List OwnPart) → flat_map written_part (parts ++ more) ≡ flat_map written_part parts ++ flat_map written_part more
    parts_joined [] more = refl
    parts_joined (part ∷ parts) more = ap (λ l. written_part part ++ l) (parts_joined parts more) ∙ sym (append_assoc (written_part part) (flat_map written_part parts) (flat_map written_part more))

grown_at : (e f : EndpointHistory) → Grows e f → e.own.updates ≡ [] → (id : ℕ) (o p : Option Out) (said flying owed : List ℕ) → StreamGrows e.side f.next_id id o p → OwesAt o said owed → FliesAt e id o said flying → FliesAt f id p said flying
grown_at e f grows silent id None None said flying owed g owes flies = flies_more flies (texts_grow e f grows silent id) (taken_stays e f grows silent id)
grown_at e f grows silent id None (Some p) said flying owed g owes flies =
    λ goes. subst (λ l. Flies (filled_text said p) p.taken l) (sym (flies_none flies (no_text e id g.1))) (record { before = []; rest = filled_text said p; is = refl; count = g.0 })
grown_at e f grows silent id (Some o) (Some p) said flying owed g owes flies = λ goes. flies_more (flies (g.reset goes)) (more_text said o p g) g.taken
grown_at e f grows silent id (Some o) None said flying owed g owes flies = absurd g

-- no place more
plain_places : (parts : List OwnPart) → AllByRecursion IsPlain parts → places_of parts ≡ 0
plain_places [] h = refl
plain_places (part ∷ parts) h = let one = h.0.1 in let rest = plain_places parts h.1 in omega (arith, one, rest)

plain_bytes : (parts : List OwnPart) → AllByRecursion IsPlain parts → AllByRecursion IsOfBytes parts
plain_bytes [] h = tt
plain_bytes (part ∷ parts) h = (h.0.0, plain_bytes parts h.1)

pub both_of_bytes : (xs ys : List OwnPart) → AllByRecursion IsOfBytes xs → AllByRecursion IsOfBytes ys → AllByRecursion IsOfBytes (xs ++ ys)
both_of_bytes [] ys a b = b
both_of_bytes (x ∷ xs) ys a b = (a.0, both_of_bytes xs ys a.1 b)

-- what was taken was written before
pub take_front : (n : ℕ) (xs ys : List ℕ) → n ≤ length xs → take n (xs ++ ys) ≡ take n xs
take_front zero xs ys few = refl
take_front (suc n) [] ys few = absurd (omega (arith, few))
take_front (suc n) (x ∷ xs) ys few = ap (λ l. x ∷ l) (take_front n xs ys (omega (arith, few)))

pub taken_within : (o : Out) (said flying : List ℕ) → AllByRecursion IsOfBytes o.parts → Flies (filled_text said o) o.taken flying → o.taken ≤ length (part_bytes o)
taken_within o said flying bytes f =
    let written = ap (λ l. length l) (parts_written o.parts said bytes) in
    let same = length_filled (part_bytes o) said in
    let all = ap (λ l. length l) f.is in
    let one = length-append f.before (flying ++ f.rest) in
    let two = length-append flying f.rest in
    let count = f.count in
    omega (arith, written, same, all, one, two, count)

owed_at : (e : EndpointHistory) (next id : ℕ) (side : Side) (o p : Option Out) (said flying owed : List ℕ) → StreamGrows side next id o p → OwesAt o said owed → FliesAt e id o said flying → OwesAt p said owed
owed_at e next id side None None said flying owed g owes flies = owes
owed_at e next id side None (Some p) said flying owed g owes flies = (plain_places p.parts g.3 ∙ ap (λ l. length l) (sym owes.0), plain_bytes p.parts g.3, λ goes. owes.1 ∙ sym (none_dropped (places (take p.taken (part_bytes p)))) ∙ ap (λ l. drop (places (take p.taken (part_bytes p))) l) (sym owes.0))
  where
    none_dropped : (n : ℕ) → drop {A = ℕ} n [] ≡ []
    none_dropped zero = refl
    none_dropped (suc n) = refl
owed_at e next id side (Some o) (Some p) said flying owed g owes flies = (
  ap places_of g.is ∙ places_behind o.parts g.more ∙ no_more (plain_places g.more g.plain) ∙ owes.0,
  subst (λ l. AllByRecursion IsOfBytes l) (sym g.is) (both_of_bytes o.parts g.more owes.1 (plain_bytes g.more g.plain)),
  λ goes. owes.2 (g.reset goes) ∙ ap (λ l. drop (places l) said) (sym (taken_alike (g.reset goes))),
)
  where
    no_more : places_of g.more ≡ 0 → places_of o.parts + places_of g.more ≡ places_of o.parts
    no_more none = omega (arith, none)

    parts_joined : (parts more : List OwnPart) → flat_map written_part (parts ++ more) ≡ flat_map written_part parts ++ flat_map written_part more
    parts_joined [] more = refl
    parts_joined (part ∷ parts) more = ap (λ l. written_part part ++ l) (parts_joined parts more) ∙ sym (append_assoc (written_part part) (flat_map written_part parts) (flat_map written_part more))

    taken_alike : o.is_reset ≡ false → take p.taken (part_bytes p) ≡ take o.taken (part_bytes o)
    taken_alike goes =
        ap (λ n. take n (part_bytes p)) g.taken ∙ ap (λ l. take o.taken (flat_map written_part l)) g.is ∙ ap (λ l. take o.taken l) (parts_joined o.parts g.more)
        ∙ take_front o.taken (part_bytes o) (flat_map written_part g.more) (taken_within o said flying owes.1 (flies goes))
owed_at e next id side (Some o) None said flying owed g owes flies = absurd g

apart_at : (side : Side) (next id : ℕ) (o p : Option Out) → StreamGrows side next id o p → is_own side id ≡ true → o ≡ None → p ≡ None
apart_at side next id None None g own none = refl
apart_at side next id None (Some p) g own none = absurd (let never : true ≡ false = sym own ∙ g.1 in cc)
apart_at side next id (Some o) p g own none = absurd (let never : Some o ≡ None = none in cc)

fresh_at : (side : Side) (next id : ℕ) (o p : Option Out) → StreamGrows side next id o p → side ≡ Client → next ≤ id → o ≡ None → p ≡ None
fresh_at side next id None None g client behind none = refl
fresh_at side next id None (Some p) g client behind none = absurd (elim (g.2) [
  | inl server ↦ (let never : Client ≡ Server = sym client ∙ server in absurd (cc))
  | inr below ↦ omega (arith, behind, below)
])
fresh_at side next id (Some o) p g client behind none = absurd (let never : Some o ≡ None = none in cc)

pub carries_grown : (side : Side) (carried said owed : ℕ → List ℕ) (e f : EndpointHistory) → Carries side carried said owed e → Grows e f → Carries side carried said owed f
carries_grown side carried said owed e f k grows = record {
  side_is = grows.side ∙ k.side_is;
  flies = λ id. grown_at e f grows k.silent id (stream_at e.outgoing id) (stream_at f.outgoing id) (said id) (carried id) (owed id) (grows.streams id) (k.owes id) (k.flies id);
  owes = λ id. owed_at e f.next_id id e.side (stream_at e.outgoing id) (stream_at f.outgoing id) (said id) (carried id) (owed id) (grows.streams id) (k.owes id) (k.flies id);
  silent = grows.own.updates ∙ k.silent;
  apart = λ id own. let was = subst (λ s. is_own s id ≡ true) grows.side own in apart_at e.side f.next_id id (stream_at e.outgoing id) (stream_at f.outgoing id) (grows.streams id) was (k.apart id was);
  next = aligned.0;
  next_is = aligned.1;
  fresh = λ client id behind. fresh_at e.side f.next_id id (stream_at e.outgoing id) (stream_at f.outgoing id) (grows.streams id) (k.side_is ∙ client) behind (k.fresh client id (later grows.next id behind));
}
  where
    by : (f.next_id ≡ e.next_id) ⊎ (f.next_id ≡ e.next_id + 4) → (n : ℕ) × (f.next_id ≡ 4 * n)
    by (inl same) = (k.next, same ∙ k.next_is)
    by (inr more) = (suc k.next, more ∙ four_more k.next e.next_id k.next_is)

    aligned : (n : ℕ) × (f.next_id ≡ 4 * n)
    aligned = by grows.next

    later : (f.next_id ≡ e.next_id) ⊎ (f.next_id ≡ e.next_id + 4) → (id : ℕ) → f.next_id ≤ id → e.next_id ≤ id
    later (inl same) id behind = omega (arith, same, behind)
    later (inr more) id behind = omega (arith, more, behind)

-- What sends first changes nothing.
same_grows : (side : Side) (next id : ℕ) (o p : Option Out) → option_map unordered_out p ≡ option_map unordered_out o → StreamGrows side next id o p
same_grows side next id None None is = tt
same_grows side next id None (Some p) is = absurd (let never : Some (unordered_out p) ≡ None = is in cc)
same_grows side next id (Some o) None is = absurd (let never : None ≡ Some (unordered_out o) = is in cc)
same_grows side next id (Some o) (Some p) is =
    let same : unordered_out p ≡ unordered_out o = same_some (unordered_out p) (unordered_out o) is in
    record {
      taken = ap (λ (x : Out). x.taken) same;
      reset = λ goes. sym (ap (λ (x : Out). x.is_reset) same) ∙ goes;
      more = [];
      is = ap (λ (x : Out). x.parts) same ∙ sym (append-nil o.parts);
      plain = tt;
    }
  where
    same_some : (x y : Out) → Some x ≡ Some y → x ≡ y
    same_some x y is = cc

pub stays_grows : (e f : EndpointHistory) → unordered f ≡ unordered e → Grows e f
stays_grows e f is = record {
  side = ap (λ (x : EndpointHistory). x.side) is;
  announced = ap (λ (x : EndpointHistory). x.announced) is;
  next = inl (ap (λ (x : EndpointHistory). x.next_id) is);
  own = own_is e.own f.own (ap (λ (x : EndpointHistory). x.own) is);
  streams = λ id. same_grows e.side f.next_id id (stream_at e.outgoing id) (stream_at f.outgoing id)
      (sym (at_seen f.outgoing plain.out id) ∙ ap (λ (x : EndpointHistory). stream_at x.outgoing id) is ∙ at_seen e.outgoing plain.out id);
}

through_plain : (side : Side) (carried said : ℕ → List ℕ) (e : EndpointHistory) → seen (lagging side carried said) (unordered e) ≡ seen (lagging side carried said) e
through_plain side carried said e = ap (λ l. record (seen (lagging side carried said) e) { outgoing = l }) (seen_plainly e.outgoing (lagging side carried said).out plain.out (λ i x. refl))

pub stays_seen : (side : Side) (carried said : ℕ → List ℕ) (e f : EndpointHistory) → unordered f ≡ unordered e → seen (lagging side carried said) f ≡ seen (lagging side carried said) e
stays_seen side carried said e f is = sym (through_plain side carried said f) ∙ ap (λ x. seen (lagging side carried said) x) is ∙ through_plain side carried said e

-- so many bytes more of one stream
abbrev pub extra : ℕ → ℕ → ℕ → ℕ
extra id n q = if q == id then n else 0

eq_swap : (q id : ℕ) → (q == id) ≡ (id == q)
eq_swap q id = by (q == id) refl
  where
    by : (b : Bool) → (q == id) ≡ b → b ≡ (id == q)
    by true is = by_id id q (λ c. true ≡ c) (λ same. refl) (λ differs. absurd (let never : false ≡ true = sym (other_way id q differs) ∙ is in cc))
    by false is = sym (other_way q id is)

pub own_lags : (o : Own) (a b c d e f : ℕ) → a ≡ d → b ≡ e → c ≡ f → record o { control_taken = a; encoder_taken = b; decoder_taken = c } ≡ record o { control_taken = d; encoder_taken = e; decoder_taken = f }
own_lags o a b c d e f p q r =
    ap (λ n. record o { control_taken = n; encoder_taken = b; decoder_taken = c }) p ∙ ap (λ n. record o { control_taken = d; encoder_taken = n; decoder_taken = c }) q
    ∙ ap (λ n. record o { control_taken = d; encoder_taken = e; decoder_taken = n }) r

-- the own streams are three
others_of_control : (side : Side) (id : ℕ) → (control_id side == id) ≡ true → ((encoder_id side == id) ≡ false) × ((decoder_id side == id) ≡ false)
others_of_control side id is = by_id (control_id side) id (λ b. b ≡ true → ((encoder_id side == id) ≡ false) × ((decoder_id side == id) ≡ false))
    (λ same here. subst (λ n. ((encoder_id side == n) ≡ false) × ((decoder_id side == n) ≡ false)) same (at side)) (λ differs here. absurd (let never : false ≡ true = here in cc)) is
  where
    at : (s : Side) → ((encoder_id s == control_id s) ≡ false) × ((decoder_id s == control_id s) ≡ false)
    at Client = (refl, refl)
    at Server = (refl, refl)

other_of_encoder : (side : Side) (id : ℕ) → (encoder_id side == id) ≡ true → (decoder_id side == id) ≡ false
other_of_encoder side id is = by_id (encoder_id side) id (λ b. b ≡ true → (decoder_id side == id) ≡ false)
    (λ same here. subst (λ n. (decoder_id side == n) ≡ false) same (at side)) (λ differs here. absurd (let never : false ≡ true = here in cc)) is
  where
    at : (s : Side) → (decoder_id s == encoder_id s) ≡ false
    at Client = refl
    at Server = refl

nothing_extra : (t n : ℕ) (b : Bool) → b ≡ false → t ≡ t + (if b then n else 0)
nothing_extra t n b is = let none = ap (λ c. if c then n else 0) is in omega (arith, none)

all_extra : (t n : ℕ) (b : Bool) → b ≡ true → t + n ≡ t + (if b then n else 0)
all_extra t n b is = let all = ap (λ c. if c then n else 0) is in omega (arith, all)

pub advanced_own : (o : Own) (side : Side) (id n : ℕ) → own_advanced o side id n
    ≡ record o { control_taken = o.control_taken + extra id n (control_id side); encoder_taken = o.encoder_taken + extra id n (encoder_id side); decoder_taken = o.decoder_taken + extra id n (decoder_id side) }
advanced_own o side id n = by (id == control_id side) (id == encoder_id side) (id == decoder_id side) (eq_swap (control_id side) id) (eq_swap (encoder_id side) id) (eq_swap (decoder_id side) id)
  where
    by : (a b c : Bool) → (control_id side == id) ≡ a → (encoder_id side == id) ≡ b → (decoder_id side == id) ≡ c
        → (if a then record o { control_taken = o.control_taken + n } else (if b then record o { encoder_taken = o.encoder_taken + n } else (if c then record o { decoder_taken = o.decoder_taken + n } else o)))
        ≡ record o { control_taken = o.control_taken + extra id n (control_id side); encoder_taken = o.encoder_taken + extra id n (encoder_id side); decoder_taken = o.decoder_taken + extra id n (decoder_id side) }
    by true b c control encoder decoder =
        let none = others_of_control side id control in
        own_lags o _ _ _ _ _ _ (all_extra o.control_taken n _ control) (nothing_extra o.encoder_taken n _ none.0) (nothing_extra o.decoder_taken n _ none.1)
    by false true c control encoder decoder =
        own_lags o _ _ _ _ _ _ (nothing_extra o.control_taken n _ control) (all_extra o.encoder_taken n _ encoder) (nothing_extra o.decoder_taken n _ (other_of_encoder side id encoder))
    by false false true control encoder decoder = own_lags o _ _ _ _ _ _ (nothing_extra o.control_taken n _ control) (nothing_extra o.encoder_taken n _ encoder) (all_extra o.decoder_taken n _ decoder)
    by false false false control encoder decoder = own_lags o _ _ _ _ _ _ (nothing_extra o.control_taken n _ control) (nothing_extra o.encoder_taken n _ encoder) (nothing_extra o.decoder_taken n _ decoder)

-- so its counts
taken_if : (a b c : Bool) (m n o x y z w : ℕ) → (a ≡ true → x ≡ w) → (b ≡ true → y ≡ w) → (c ≡ true → z ≡ w) → ((a || b || c) ≡ false → w ≡ 0)
    → (if a then m + x else (if b then n + y else (if c then o + z else 0))) ≡ (if a then m else (if b then n else (if c then o else 0))) + w
taken_if true b c m n o x y z w p q r s = ap (λ i. m + i) (p refl)
taken_if false true c m n o x y z w p q r s = ap (λ i. n + i) (q refl)
taken_if false false true m n o x y z w p q r s = ap (λ i. o + i) (r refl)
taken_if false false false m n o x y z w p q r s = let none = s refl in omega (arith, none)

same_extra : (id n q p : ℕ) → (p == q) ≡ true → extra id n q ≡ extra id n p
same_extra id n q p is = by_id p q (λ b. b ≡ true → extra id n q ≡ extra id n p) (λ same here. ap (λ i. extra id n i) (sym same)) (λ differs here. absurd (let never : false ≡ true = here in cc)) is

-- an endpoint of whose own streams more was taken
abbrev pub own_more : EndpointHistory → ℕ → ℕ → EndpointHistory
own_more e id n =
    record e {
      own = record e.own {
        control_taken = e.own.control_taken + extra id n (control_id e.side);
        encoder_taken = e.own.encoder_taken + extra id n (encoder_id e.side);
        decoder_taken = e.own.decoder_taken + extra id n (decoder_id e.side);
      };
    }

taken_more : (e : EndpointHistory) (id n q : ℕ) → (is_own e.side q ≡ false → extra id n q ≡ 0) → own_taken (own_more e id n) q ≡ own_taken e q + extra id n q
taken_more e id n q none =
    taken_if (q == control_id e.side) (q == encoder_id e.side) (q == decoder_id e.side) e.own.control_taken e.own.encoder_taken e.own.decoder_taken _ _ _ (extra id n q)
    (same_extra id n (control_id e.side) q) (same_extra id n (encoder_id e.side) q) (same_extra id n (decoder_id e.side) q) none

-- Bytes are taken: they are carried behind those that are.
more_carried : {text flying : List ℕ} {taken now : ℕ} (bytes behind : List ℕ) → (f : Flies text taken flying) → f.rest ≡ bytes ++ behind → now ≡ taken + length bytes → Flies text now (flying ++ bytes)
more_carried {flying = flying} bytes behind f rest now =
    record {
      before = f.before;
      rest = behind;
      is = f.is ∙ ap (λ l. f.before ++ (flying ++ l)) rest ∙ ap (λ l. f.before ++ l) (sym (append_assoc flying bytes behind));
      count = let both = length-append flying bytes in let was = f.count in omega (arith, both, was, now);
    }

shifted : (t k x l : ℕ) → l ≡ k + x → (t + x) - l ≡ t - k
shifted t k x l is = omega (arith, is)

split_front : (n : ℕ) (xs bytes : List ℕ) → bytes ≡ take n xs → xs ≡ bytes ++ drop n xs
split_front n xs bytes is = sym (take-append-drop n xs) ∙ ap (λ l. l ++ drop n xs) (sym is)

no_bytes : (bytes : List ℕ) (n : ℕ) → bytes ≡ take n [] → bytes ≡ []
no_bytes bytes zero is = is
no_bytes bytes (suc n) is = is

-- What a program takes of a side.
pub record Took (side : Side) (before after said left : ℕ → List ℕ) (e f : EndpointHistory) : Type 0 where
  pub carries : Carries side after said left f
  pub seen_so : seen (lagging side after said) f ≡ seen (lagging side before said) e

-- what waits of a stream with all that was announced
abbrev pub filled_waiting : EndpointHistory → (ℕ → List ℕ) → ℕ → List ℕ
filled_waiting e said id = waits_of e id (option_map (filled_out (said id)) (stream_at e.outgoing id))

-- what is owed once so many bytes more were taken
pub record OwesLeft (e : EndpointHistory) (id n : ℕ) (said owed left : ℕ → List ℕ) : Type 0 where
  pub others : (q : ℕ) → (q == id) ≡ false → left q ≡ owed q
  pub none : stream_at e.outgoing id ≡ None → left id ≡ []
  pub rest : (o : Out) → stream_at e.outgoing id ≡ Some o → o.is_reset ≡ false → left id ≡ drop (places (take (o.taken + n) (part_bytes o))) (said id)

abbrev pub Joins : (ℕ → List ℕ) → ℕ → List ℕ → (ℕ → List ℕ) → Type 0
Joins before id bytes after = (q : ℕ) → after q ≡ before q ++ (if q == id then bytes else [])

pub length_if : (b : Bool) (bytes : List ℕ) → length (if b then bytes else []) ≡ (if b then length bytes else 0)
length_if true bytes = refl
length_if false bytes = refl

abbrev pub its : EndpointHistory → (said carried : ℕ → List ℕ) → EndpointHistory → EndpointHistory
its e said carried f = seen (lagging e.side carried said) f

pub not_there : {X : Type 0} (o : Option X) (x : X) → o ≡ Some x → o ≡ None → ⊥
not_there o x some none = absurd (let never : Some x ≡ None = sym some ∙ none in cc)

module _ (before after said owed left : ℕ → List ℕ) (e : EndpointHistory) (k : Carries e.side before said owed e) (id : ℕ) (bytes : List ℕ) (joins : Joins before id bytes after) (front : bytes ≡ take (length bytes) (filled_waiting e said id)) (owes : OwesLeft e id (length bytes) said owed left) where
  abbrev n : ℕ
  n = length bytes

  longer : (q : ℕ) → length (after q) ≡ length (before q) + extra id n q
  longer q = ap (λ l. length l) (joins q) ∙ length-append (before q) (if q == id then bytes else []) ∙ ap (λ i. length (before q) + i) (length_if (q == id) bytes)

  others_out : (i : ℕ) (x : Out) → (i == id) ≡ false → (lagging e.side after said).out i x ≡ (lagging e.side before said).out i x
  others_out i x differs =
      let none = ap (λ b. if b then n else 0) differs in
      let all = longer i in
      let same : length (after i) ≡ length (before i) = omega (arith, none, all) in
      ap (λ l. record x { parts = filled_parts (said i) x.parts; taken = x.taken - l; end_taken = false; precedence = default_precedence }) same

  here : after id ≡ before id ++ bytes
  here = joins id ∙ ap (λ b. before id ++ (if b then bytes else [])) (same_number id)
    where
      same_number : (i : ℕ) → (i == i) ≡ true
      same_number i = grind (arith, common_steps)

  elsewhere : (q : ℕ) → (q == id) ≡ false → after q ≡ before q
  elsewhere q differs = joins q ∙ ap (λ b. before q ++ (if b then bytes else [])) differs ∙ append-nil (before q)

  -- an own stream
  own_seen : stream_at e.outgoing id ≡ None → its e said after (own_more e id n) ≡ its e said before e
  own_seen at =
      ap (λ l. record (its e said after (own_more e id n)) { outgoing = l }) (seen_absent e.outgoing (lagging e.side after said).out (lagging e.side before said).out id at others_out)
      ∙ ap (λ o. record (its e said before e) { own = o })
      (own_lags e.own _ _ _ _ _ _
      (shifted e.own.control_taken (length (before (control_id e.side))) (extra id n (control_id e.side)) (length (after (control_id e.side))) (longer (control_id e.side)))
      (shifted e.own.encoder_taken (length (before (encoder_id e.side))) (extra id n (encoder_id e.side)) (length (after (encoder_id e.side))) (longer (encoder_id e.side)))
      (shifted e.own.decoder_taken (length (before (decoder_id e.side))) (extra id n (decoder_id e.side)) (length (after (decoder_id e.side))) (longer (decoder_id e.side))))

  no_more : stream_at e.outgoing id ≡ None → (q : ℕ) → is_own e.side q ≡ false → extra id n q ≡ 0
  no_more at q other = by_id q id (λ b. (if b then n else 0) ≡ 0)
      (λ same.
      let none : filled_waiting e said id ≡ [] = ap (λ o. waits_of e id (option_map (filled_out (said id)) o)) at ∙ waits_own e id ∙ ap (λ l. drop (own_taken e id) l) (no_text e id (subst (λ i. is_own e.side i ≡ false) same other)) ∙ none_dropped (own_taken e id) in
      ap (λ l. length l) (no_bytes bytes n (front ∙ ap (λ l. take n l) none)))
      (λ differs. refl)
    where
      none_dropped : (i : ℕ) → drop {A = ℕ} i [] ≡ []
      none_dropped zero = refl
      none_dropped (suc i) = refl

  own_flies : stream_at e.outgoing id ≡ None → (q : ℕ) → FliesAt (own_more e id n) q (stream_at e.outgoing q) (said q) (after q)
  own_flies at q = by_id q id (λ b. FliesAt (own_more e id n) q (stream_at e.outgoing q) (said q) (after q))
      (λ same. subst (λ i. FliesAt (own_more e id n) i (stream_at e.outgoing i) (said i) (after i)) (sym same) this)
      (λ differs. other (stream_at e.outgoing q) (k.flies q) differs)
    where
      same_number : (i : ℕ) → (i == i) ≡ true
      same_number i = grind (arith, common_steps)

      this : FliesAt (own_more e id n) id (stream_at e.outgoing id) (said id) (after id)
      this =
          let f = subst (λ o. FliesAt e id o (said id) (before id)) at (k.flies id) in
          let waits : filled_waiting e said id ≡ f.rest = ap (λ o. waits_of e id (option_map (filled_out (said id)) o)) at ∙ waits_own e id ∙ rest_waits f in
          subst (λ o. FliesAt (own_more e id n) id o (said id) (after id)) (sym at)
          (subst (λ l. Flies (own_text e id) (own_taken (own_more e id n) id) l) (sym here)
          (more_carried bytes (drop n f.rest) f (split_front n f.rest bytes (front ∙ ap (λ l. take n l) waits))
          (taken_more e id n id (no_more at id) ∙ ap (λ b. own_taken e id + (if b then n else 0)) (same_number id))))

      none_more : (m : ℕ) → m + 0 ≡ m
      none_more m = omega arith

      other : (o : Option Out) → FliesAt e q o (said q) (before q) → (q == id) ≡ false → FliesAt (own_more e id n) q o (said q) (after q)
      other None f differs =
          let now : own_taken (own_more e id n) q ≡ own_taken e q = taken_more e id n q (no_more at q) ∙ ap (λ b. own_taken e q + (if b then n else 0)) differs ∙ none_more (own_taken e q) in
          subst (λ l. Flies (own_text e q) (own_taken (own_more e id n) q) l) (sym (elsewhere q differs)) (flies_more f (nothing_more (own_text e q)) now)
      other (Some o) f differs = λ goes. subst (λ l. Flies (filled_text (said q) o) o.taken l) (sym (elsewhere q differs)) (f goes)

  -- what is owed then
  own_owes : stream_at e.outgoing id ≡ None → (q : ℕ) → OwesAt (stream_at e.outgoing q) (said q) (left q)
  own_owes at q = by_id q id (λ b. OwesAt (stream_at e.outgoing q) (said q) (left q))
      (λ same. subst (λ i. OwesAt (stream_at e.outgoing i) (said i) (left i)) (sym same)
      (subst (λ o. OwesAt o (said id) (left id)) (sym at) ((subst (λ o. OwesAt o (said id) (owed id)) at (k.owes id)).0, owes.none at)))
      (λ differs. subst (λ l. OwesAt (stream_at e.outgoing q) (said q) l) (sym (owes.others q differs)) (k.owes q))

  own_took : stream_at e.outgoing id ≡ None → Took e.side before after said left e (advance e id n)
  own_took at =
      let is : advance e id n ≡ own_more e id n = ap (λ o. advance_at e id n o) at ∙ ap (λ o. record e { own = o }) (advanced_own e.own e.side id n) in
      subst (λ f. Took e.side before after said left e f) (sym is)
      (record { carries = record { side_is = refl; flies = own_flies at; owes = own_owes at; silent = k.silent; apart = k.apart; next = k.next; next_is = k.next_is; fresh = k.fresh }; seen_so = own_seen at })

  -- a request stream
  not_own : (o : Out) → stream_at e.outgoing id ≡ Some o → (q : ℕ) → is_own e.side q ≡ true → extra id n q ≡ 0
  not_own o at q own = by_id q id (λ b. (if b then n else 0) ≡ 0)
      (λ same. absurd (not_there (stream_at e.outgoing id) o at (k.apart id (subst (λ i. is_own e.side i ≡ true) same own)))) (λ differs. refl)

  is_control : is_own e.side (control_id e.side) ≡ true
  is_control = by e.side
    where
      by : (s : Side) → is_own s (control_id s) ≡ true
      by Client = refl
      by Server = refl

  is_encoder : is_own e.side (encoder_id e.side) ≡ true
  is_encoder = by e.side
    where
      by : (s : Side) → is_own s (encoder_id s) ≡ true
      by Client = refl
      by Server = refl

  is_decoder : is_own e.side (decoder_id e.side) ≡ true
  is_decoder = by e.side
    where
      by : (s : Side) → is_own s (decoder_id s) ≡ true
      by Client = refl
      by Server = refl

  as_long : (o : Out) → stream_at e.outgoing id ≡ Some o → (q : ℕ) → is_own e.side q ≡ true → length (after q) ≡ length (before q)
  as_long o at q own = let all = longer q in let none = not_own o at q own in omega (arith, all, none)

  abbrev taken_out : Out → Out
  taken_out o = record o { taken = o.taken + n }

  request_seen : (o : Out) → stream_at e.outgoing id ≡ Some o → its e said after (advance_at e id n (Some o)) ≡ its e said before e
  request_seen o at =
      let all = longer id in
      let this : extra id n id ≡ n = ap (λ b. if b then n else 0) (same_number id) in
      let shift = shifted o.taken (length (before id)) n (length (after id)) (all ∙ ap (λ i. length (before id) + i) this) in
      ap (λ l. record (its e said after (advance_at e id n (Some o))) { outgoing = l })
      (seen_as e.outgoing (lagging e.side before said).out (lagging e.side after said).out id o (taken_out o) at (ap (λ t. record o { parts = filled_parts (said id) o.parts; taken = t; end_taken = false; precedence = default_precedence }) shift) (λ i x differs. sym (others_out i x differs)))
      ∙ ap (λ own. record (its e said before e) { own = own })
      (own_lags e.own _ _ _ _ _ _ (ap (λ l. e.own.control_taken - l) (as_long o at (control_id e.side) is_control)) (ap (λ l. e.own.encoder_taken - l) (as_long o at (encoder_id e.side) is_encoder)) (ap (λ l. e.own.decoder_taken - l) (as_long o at (decoder_id e.side) is_decoder)))
    where
      same_number : (i : ℕ) → (i == i) ≡ true
      same_number i = grind (arith, common_steps)

  request_flies : (o : Out) → stream_at e.outgoing id ≡ Some o → (q : ℕ) → FliesAt (advance_at e id n (Some o)) q (stream_at (set_stream e.outgoing id (taken_out o)) q) (said q) (after q)
  request_flies o at q = by_id id q (λ b. FliesAt (advance_at e id n (Some o)) q (stream_at (set_stream e.outgoing id (taken_out o)) q) (said q) (after q))
      (λ same. subst (λ i. FliesAt (advance_at e id n (Some o)) i (stream_at (set_stream e.outgoing id (taken_out o)) i) (said i) (after i)) same this)
      (λ differs. subst (λ x. FliesAt (advance_at e id n (Some o)) q x (said q) (after q)) (sym (set-other e.outgoing id q (taken_out o) differs))
      (subst (λ l. FliesAt (advance_at e id n (Some o)) q (stream_at e.outgoing q) (said q) l) (sym (elsewhere q (other_way id q differs))) (other (stream_at e.outgoing q) (k.flies q))))
    where
      other : (x : Option Out) → FliesAt e q x (said q) (before q) → FliesAt (advance_at e id n (Some o)) q x (said q) (before q)
      other None f = f
      other (Some x) f = f

      this : FliesAt (advance_at e id n (Some o)) id (stream_at (set_stream e.outgoing id (taken_out o)) id) (said id) (after id)
      this = subst (λ x. FliesAt (advance_at e id n (Some o)) id x (said id) (after id)) (sym (set-here e.outgoing id (taken_out o))) (λ goes.
          let f = subst (λ x. FliesAt e id x (said id) (before id)) at (k.flies id) goes in
          let waits : filled_waiting e said id ≡ f.rest = ap (λ x. waits_of e id (option_map (filled_out (said id)) x)) at ∙ ap (λ b. if b then [] else drop o.taken (filled_text (said id) o)) goes ∙ rest_waits f in
          subst (λ l. Flies (filled_text (said id) o) (o.taken + n) l) (sym here)
          (more_carried bytes (drop n f.rest) f (split_front n f.rest bytes (front ∙ ap (λ l. take n l) waits)) refl))

  request_owes : (o : Out) → stream_at e.outgoing id ≡ Some o → (q : ℕ) → OwesAt (stream_at (set_stream e.outgoing id (taken_out o)) q) (said q) (left q)
  request_owes o at q = by_id id q (λ b. OwesAt (stream_at (set_stream e.outgoing id (taken_out o)) q) (said q) (left q))
      (λ same. subst (λ i. OwesAt (stream_at (set_stream e.outgoing id (taken_out o)) i) (said i) (left i)) same
      (subst (λ x. OwesAt x (said id) (left id)) (sym (set-here e.outgoing id (taken_out o)))
      (let was = subst (λ x. OwesAt x (said id) (owed id)) at (k.owes id) in (was.0, was.1, λ goes. owes.rest o at goes))))
      (λ differs. subst (λ x. OwesAt x (said q) (left q)) (sym (set-other e.outgoing id q (taken_out o) differs)) (subst (λ l. OwesAt (stream_at e.outgoing q) (said q) l) (sym (owes.others q (other_way id q differs))) (k.owes q)))

  request_apart : (o : Out) → stream_at e.outgoing id ≡ Some o → (q : ℕ) → is_own e.side q ≡ true → stream_at (set_stream e.outgoing id (taken_out o)) q ≡ None
  request_apart o at q own = by_id id q (λ b. stream_at (set_stream e.outgoing id (taken_out o)) q ≡ None)
      (λ same. absurd (not_there (stream_at e.outgoing id) o at (k.apart id (subst (λ i. is_own e.side i ≡ true) (sym same) own))))
      (λ differs. set-other e.outgoing id q (taken_out o) differs ∙ k.apart q own)

  request_fresh : (o : Out) → stream_at e.outgoing id ≡ Some o → e.side ≡ Client → (q : ℕ) → e.next_id ≤ q → stream_at (set_stream e.outgoing id (taken_out o)) q ≡ None
  request_fresh o at client q behind = by_id id q (λ b. stream_at (set_stream e.outgoing id (taken_out o)) q ≡ None)
      (λ same. absurd (not_there (stream_at e.outgoing id) o at (k.fresh client id (subst (λ i. e.next_id ≤ i) (sym same) behind))))
      (λ differs. set-other e.outgoing id q (taken_out o) differs ∙ k.fresh client q behind)

  request_took : (o : Out) → stream_at e.outgoing id ≡ Some o → Took e.side before after said left e (advance e id n)
  request_took o at =
      subst (λ f. Took e.side before after said left e f) (sym (ap (λ x. advance_at e id n x) at))
      (record { carries = record { side_is = refl; flies = request_flies o at; owes = request_owes o at; silent = k.silent; apart = request_apart o at; next = k.next; next_is = k.next_is; fresh = request_fresh o at }; seen_so = request_seen o at })

  by_stream : (o : Option Out) → stream_at e.outgoing id ≡ o → Took e.side before after said left e (advance e id n)
  by_stream None at = own_took at
  by_stream (Some o) at = request_took o at

  -- **What QUIC takes is no event of a schedule.**
  pub takes : Took e.side before after said left e (advance e id n)
  takes = by_stream (stream_at e.outgoing id) refl

pub takes_on : (side : Side) (before after said owed left : ℕ → List ℕ) (e : EndpointHistory) → Carries side before said owed e → (id : ℕ) (bytes : List ℕ) → Joins before id bytes after
    → bytes ≡ take (length bytes) (filled_waiting e said id) → OwesLeft e id (length bytes) said owed left → Took side before after said left e (advance e id (length bytes))
takes_on side before after said owed left e k id bytes joins front owes =
    subst (λ s. Took s before after said left e (advance e id (length bytes))) k.side_is (takes before after said owed left e (subst (λ s. Carries s before said owed e) (sym k.side_is) k) id bytes joins front owes)
