-- A flow to whose end a part is written, or that is cut off: its receiver keeps what it kept.
use Rattle.std.proofs.Common.{◌≡◌, ℕ, zero, suc, ◌+◌, ◌<◌, List, [], ◌∷◌, ◌++◌, length, refl, arith, ◌≤◌, take, ap, drop, Some, ◌-◌, ◌∙◌, append-nil, sym, subst, Option, None, append_assoc, Bool, true, false}
use Rattle.std.specs.Prelude.{slice_get, ◌&&◌, nat_lt, not}
use Rattle.h3_world.specs.Flow.{Part, Flow, part_bytes, flow_bytes, Section, own_part}
use Rattle.std.proofs.lemmas.Grind.{flat_map-append}
use Rattle.h3_world.specs.Sending.{appended}
use Rattle.std.specs.List.{flat_map, concat, AllByRecursion}
use Rattle.h3_proto.specs.declared.stream.Side.{Side}
use Rattle.h3_connection.specs.Incoming.{Incoming}
use Rattle.h3_connection.specs.Outgoing.{OwnPart}
use Rattle.h3_connection.specs.OwnIds.{other}
use Rattle.h3_world.specs.Flow.Part.{Interim, Head, Body, Trailer, End}
use Rattle.h3_world.specs.Order.{next_part, is_end, last_part, outgoing_of, section_of_part}
use Rattle.h3_world.specs.Sound.{IsSoundFlow}
use Rattle.h3_world.specs.World.{Party}
use Rattle.h3_world.specs.Setup.{Setup}
use Rattle.h3_headline.specs.Arriving.{cut, made}
use Rattle.h3_headline.specs.Calls.{Extends}
use Rattle.h3_headline.specs.Standing.{IsReadable, ReceivesFlow, StandsBefore, WaitsIn, place_after, section_frame}

get_front : (parts more : List Part) (n : ℕ) → n < length parts → slice_get (parts ++ more) n ≡ slice_get parts n
get_front [] more n h = absurd (omega (arith, h))
get_front (p ∷ parts) more zero h = refl
get_front (p ∷ parts) more (suc n) h = get_front parts more n (omega (arith, h))

pub take_front : {X : Type 0} (n : ℕ) (xs ys : List X) → n ≤ length xs → take n (xs ++ ys) ≡ take n xs
take_front zero xs ys h = refl
take_front (suc n) [] ys h = absurd (omega (arith, h))
take_front (suc n) (x ∷ xs) ys h = ap (λ l. x ∷ l) (take_front n xs ys (omega (arith, h)))

pub drop_front : {X : Type 0} (n : ℕ) (xs ys : List X) → n ≤ length xs → drop n (xs ++ ys) ≡ drop n xs ++ ys
drop_front zero xs ys h = refl
drop_front (suc n) [] ys h = absurd (omega (arith, h))
drop_front (suc n) (x ∷ xs) ys h = drop_front n xs ys (omega (arith, h))

there : (parts : List Part) (n : ℕ) (part : Part) → slice_get parts n ≡ Some part → n < length parts
there [] n part e = cc
there (p ∷ parts) zero part e = omega arith
there (p ∷ parts) (suc n) part e = omega (arith, there parts n part e)

pub bytes_appended : (f : Flow) (part : Part) → flow_bytes (appended f part) ≡ flow_bytes f ++ part_bytes part
bytes_appended f part = flat_map-append part_bytes f.sent (part ∷ []) ∙ ap (λ l. flow_bytes f ++ l) (append-nil (part_bytes part))

left_appended : (n : ℕ) (sent : List Part) (part : Part) → n ≤ length sent → flat_map part_bytes (drop n (sent ++ part ∷ [])) ≡ flat_map part_bytes (drop n sent) ++ part_bytes part
left_appended n sent part h =
    ap (flat_map part_bytes) (drop_front n sent (part ∷ []) h) ∙ flat_map-append part_bytes (drop n sent) (part ∷ []) ∙ ap (λ l. flat_map part_bytes (drop n sent) ++ l) (append-nil (part_bytes part))

-- in front of a part it stands as before
before_more : (f : Flow) (part : Part) (n : ℕ) (next : Option Part) (left : List ℕ) → f.parts_out ≤ length f.sent → next_part f ≡ next → StandsBefore f n next left
    → StandsBefore (appended f part) n (next_part (appended f part)) (left ++ part_bytes part)
before_more f part zero next left within is h = (h.0, ap (λ l. l ++ part_bytes part) h.1 ∙ sym (left_appended f.parts_out f.sent part within))
before_more f part (suc n) (Some (Body bytes own)) left within is h =
    let inside = there f.sent f.parts_out (Body bytes own) is in
    subst (λ o. StandsBefore (appended f part) (suc n) o (left ++ part_bytes part)) (sym (get_front f.sent (part ∷ []) f.parts_out inside ∙ is)) (
      h.0,
      ap (λ l. l ++ part_bytes part) h.1 ∙ append_assoc (drop f.body_out bytes) (flat_map part_bytes (drop (f.parts_out + 1) f.sent)) (part_bytes part)
          ∙ ap (λ l. drop f.body_out bytes ++ l) (sym (left_appended (f.parts_out + 1) f.sent part (omega (arith, inside)))),
    )
before_more f part (suc n) None left within is h = absurd h
before_more f part (suc n) (Some (Interim s)) left within is h = absurd h
before_more f part (suc n) (Some (Head s)) left within is h = absurd h
before_more f part (suc n) (Some (Trailer s)) left within is h = absurd h
before_more f part (suc n) (Some End) left within is h = absurd h

waits_more : (f : Flow) (part : Part) (i : Incoming) (section : Option (List ℕ)) (next : Option Part) → next_part f ≡ next → WaitsIn f i section (section_of_part next)
    → WaitsIn (appended f part) i section (section_of_part (next_part (appended f part)))
waits_more f part i None next is h = h
waits_more f part i (Some bytes) None is h = absurd h
waits_more f part i (Some bytes) (Some next) is h =
    subst (λ o. WaitsIn (appended f part) i (Some bytes) (section_of_part o)) (sym (get_front f.sent (part ∷ []) f.parts_out (there f.sent f.parts_out next is) ∙ is)) (of_part next h)
  where
    of_part : (next : Part) → WaitsIn f i (Some bytes) (section_of_part (Some next)) → WaitsIn (appended f part) i (Some bytes) (section_of_part (Some next))
    of_part (Interim s) k = k
    of_part (Head s) k = k
    of_part (Trailer s) k = k
    of_part (Body b own) k = absurd k
    of_part End k = absurd k

over_more : (sent : List Part) (part : Part) (n : ℕ) → n ≤ length sent → (nat_lt 0 n && is_end (slice_get (sent ++ part ∷ []) (n - 1))) ≡ (nat_lt 0 n && is_end (slice_get sent (n - 1)))
over_more sent part zero h = refl
over_more sent part (suc n) h = ap (λ o. nat_lt 0 (suc n) && is_end o) (get_front sent (part ∷ []) (suc n - 1) (omega (arith, h)))

regroup : (a b c d : List ℕ) → a ++ b ++ (c ++ d) ≡ (a ++ b ++ c) ++ d
regroup a b c d = sym (append_assoc (a ++ b) c d)

kept_appended : (p : Party) (f : Flow) (part : Part) (i : Incoming) → IsSoundFlow p f → ReceivesFlow f i → ReceivesFlow (appended f part) i
kept_appended p f part i sound h =
    record {
      fault = h.fault;
      ended = h.ended;
      was_reset = h.was_reset;
      is_over = h.is_over ∙ sym (over_more f.sent part f.parts_out sound.out);
      waits_for = h.waits_for;
      reads = λ alive. let r = h.reads alive in record {
        unread = subst (StandsBefore (appended f part) i.body_left (next_part (appended f part)))
            (sym (ap (λ l. section_frame i.section ++ concat i.unread ++ l) (ap (drop f.delivered) (bytes_appended f part) ∙ drop_front f.delivered (flow_bytes f) (part_bytes part) sound.delivered)
            ∙ regroup (section_frame i.section) (concat i.unread) (drop f.delivered (flow_bytes f)) (part_bytes part)))
            (before_more f part i.body_left (next_part f) (section_frame i.section ++ concat i.unread ++ drop f.delivered (flow_bytes f)) sound.out refl r.unread);
        waits = waits_more f part i i.section (next_part f) refl r.waits;
        pieces = r.pieces;
        place = r.place ∙ sym (ap place_after (take_front f.parts_out f.sent (part ∷ []) sound.out));
        content = r.content;
      };
      given_up = λ lost. record { unread = (h.given_up lost).unread; section = (h.given_up lost).section; waits = (h.given_up lost).waits };
    }

all_more : (P : Part → Type 0) (parts : List Part) (part : Part) → P part → AllByRecursion P parts → AllByRecursion P (parts ++ part ∷ [])
all_more P [] part x h = (x, tt)
all_more P (p ∷ parts) part x h = (h.0, all_more P parts part x h.1)

-- **A part is written at its end.**
pub part_extends : (setup : Setup) (p : Party) (side : Side) (f : Flow) (part : Part) → IsSoundFlow p f → IsReadable setup (other side) part → Extends setup side f (appended f part)
part_extends setup p side f part sound readable = record { seen = refl; kept = λ i h. kept_appended p f part i sound h; readable = λ h. all_more (IsReadable setup (other side)) f.sent part readable h }

kept_cut : (f : Flow) (i : Incoming) → ReceivesFlow f i → ReceivesFlow (cut f) i
kept_cut f i h =
    record {
      fault = h.fault;
      ended = h.ended;
      was_reset = h.was_reset;
      is_over = h.is_over;
      waits_for = h.waits_for;
      reads = λ alive. record {
        unread = before_cut i.body_left (next_part f) _ (h.reads alive).unread;
        waits = waits_cut i.section (section_of_part (next_part f)) (h.reads alive).waits;
        pieces = (h.reads alive).pieces;
        place = (h.reads alive).place;
        content = (h.reads alive).content;
      };
      given_up = λ lost. record { unread = (h.given_up lost).unread; section = (h.given_up lost).section; waits = (h.given_up lost).waits };
    }
  where
    before_cut : (n : ℕ) (part : Option Part) (left : List ℕ) → StandsBefore f n part left → StandsBefore (cut f) n part left
    before_cut zero part left h = h
    before_cut (suc n) None left h = h
    before_cut (suc n) (Some (Interim s)) left h = h
    before_cut (suc n) (Some (Head s)) left h = h
    before_cut (suc n) (Some (Body bytes own)) left h = h
    before_cut (suc n) (Some (Trailer s)) left h = h
    before_cut (suc n) (Some End) left h = h

    waits_cut : (section : Option (List ℕ)) (part : Option Section) → WaitsIn f i section part → WaitsIn (cut f) i section part
    waits_cut None part h = h
    waits_cut (Some bytes) None h = h
    waits_cut (Some bytes) (Some s) h = h

pub cut_extends : (setup : Setup) (side : Side) (f : Flow) → Extends setup side f (cut f)
cut_extends setup side f = record { seen = refl; kept = λ i h. kept_cut f i h; readable = λ h. h }

-- What the sender has of it then.
last_appended : (parts : List Part) (part : Part) → last_part (parts ++ part ∷ []) ≡ Some part
last_appended [] part = refl
last_appended (p ∷ []) part = refl
last_appended (p ∷ q ∷ parts) part = last_appended (q ∷ parts) part

parts_appended : (f : Flow) (part : Part) → flat_map own_part (f.sent ++ part ∷ []) ≡ flat_map own_part f.sent ++ own_part part
parts_appended f part = flat_map-append own_part f.sent (part ∷ []) ∙ ap (λ l. flat_map own_part f.sent ++ l) (append-nil (own_part part))

pub sends_part : (f : Flow) (part : Part) (own : OwnPart) → own_part part ≡ own ∷ [] → is_end (Some part) ≡ false → (outgoing_of f).is_finished ≡ false
    → record (outgoing_of f) { parts = (outgoing_of f).parts ++ own ∷ [] } ≡ outgoing_of (appended f part)
sends_part f part own is more unfinished =
    sym (ap (λ l. made l f.delivered (not f.is_reset && is_end (last_part (f.sent ++ part ∷ []))) f.is_reset) (parts_appended f part ∙ ap (λ l. flat_map own_part f.sent ++ l) is)
    ∙ ap (λ b. made (flat_map own_part f.sent ++ own ∷ []) f.delivered b f.is_reset)
    (ap (λ o. not f.is_reset && is_end o) (last_appended f.sent part) ∙ ap (λ b. not f.is_reset && b) more ∙ no_end (not f.is_reset) ∙ sym unfinished))
  where
    no_end : (b : Bool) → (b && false) ≡ false
    no_end true = refl
    no_end false = refl

pub sends_end : (f : Flow) → f.is_reset ≡ false → record (outgoing_of f) { is_finished = true } ≡ outgoing_of (appended f End)
sends_end f whole =
    sym (ap (λ l. made l f.delivered (not f.is_reset && is_end (last_part (f.sent ++ End ∷ []))) f.is_reset) (parts_appended f End ∙ append-nil (flat_map own_part f.sent))
    ∙ ap (λ b. made (flat_map own_part f.sent) f.delivered b f.is_reset)
    (ap (λ o. not f.is_reset && is_end o) (last_appended f.sent End) ∙ ap (λ b. not b && true) whole))
