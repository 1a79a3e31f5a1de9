-- How what waits on a request stream was cut into pieces changes nothing but how a body or a session is cut.
use Rattle.std.proofs.Common.{◌≡◌, ◌⊎◌, ℕ, zero, suc, ◌+◌, ◌-◌, ◌<◌, ◌≤◌, Bool, true, false, List, [], ◌∷◌, ◌++◌, length, take, drop, refl, ap, sym, ◌∙◌, subst, arith, inl, inr, append_assoc, append-nil, length-append}
use Rattle.std.specs.Prelude.{Option, Some, None, is_some, if◌then◌else◌, ◌==◌, ◌≢◌, nat_lt, not, ◌&&◌}
use Rattle.std.specs.List.{concat}
use Rattle.std.proofs.lemmas.Bool.{cases_lt, lt-ltb, le-ltb, lt-leb, le-leb}
use Rattle.std.proofs.lemmas.List.{length-drop, length-take, take-append-drop}
use Rattle.h3_field.specs.Field.{Field}
use Rattle.h3_field.specs.Instruction.{DecoderInstruction}
use Rattle.h3_qpack.specs.DecoderState.{DecoderState}
use Rattle.h3_qpack.specs.DecodedSection.{DecodedSection, Fields, Missing, BadSection, decode_section}
use Rattle.h3_header.specs.Head.{Head, has_pseudo}
use Rattle.h3_header.specs.HeadRead.{HeadRead, IsHead, IsNone, head_by}
use Rattle.h3_proto.specs.declared.stream.Side.{Side}
use Rattle.h3_proto.specs.declared.stream.Side.TheVariants.{Client, Server}
use Rattle.h3_frames.specs.ExcessiveFrames.{begins_section, is_excessive_by}
use Rattle.h3_frames.specs.Frames.{Front, Whole, Unknown, Refused, Unfinished, frame_by}
use Rattle.h3_frames.specs.Pieces.{chunk_of, first_of, with_piece, without, ending}
use Rattle.std.proofs.lemmas.List.Folds.{concat-append}
use Rattle.h3_frames.specs.PieceLaws.{concat-without}
use Rattle.h3_frames.specs.declared.proto.frame.PayloadLen.{PayloadLen}
use Rattle.h3_frames.specs.declared.proto.frame.Frame.{Frame}
use Rattle.h3_frames.specs.declared.proto.frame.Frame.TheVariants as frame
use Rattle.h3_connection.specs.Announcing.{section_of}
use Rattle.h3_connection.specs.Codes.{frame_error}
use Rattle.h3_connection.specs.Delivering.{kept}
use Rattle.h3_connection.specs.Incoming.{Incoming, is_body}
use Rattle.h3_connection.specs.Skipping.{is_empty_data, skipped}
use Rattle.h3_connection.specs.SkippingLaws.{found_not_empty}
use Rattle.h3_connection.specs.StrictMessages.{broken_rule, if_whole}
use Rattle.h3_messages.specs.Content.{is_exceeded, may_end, takes_trailer}
use Rattle.h3_connection.specs.Pulling.{Pulled, just, connection_fault, malformed, unless_broken, whole_head, whole_trailer, head_or_trailer, judged, read_section, decoded, at_section, new_section, at_trailer, at_end, at_frame, framed, next_frame, between_frames, in_message, next_item, pull_stream, in_payload, at_payload, body_of, raw_of, raw, past_section, begun_section, begun_payload, with_content, left_with, is_for, is_client, is_interim, told_size, excess}
use Rattle.h3_connection.specs.declared.setup.Announced.{Announced}
use Rattle.h3_connection.specs.declared.event.Malformation.{Malformation}
use Rattle.h3_connection.specs.declared.event.Malformation.TheVariants as malformation
use Rattle.h3_connection.specs.declared.event.Pull.{Pull}
use Rattle.h3_connection.specs.declared.event.Pull.TheVariants as pull
use Rattle.h3_connection.specs.declared.event.StreamFault.{StreamFault}
use Rattle.h3_connection.specs.declared.event.Fault.TheVariants as fault
use Rattle.h3_connection.specs.declared.event.Item.TheVariants as item
use Rattle.h3_connection.specs.declared.place.Place.{Place}
use Rattle.h3_connection.specs.declared.place.Place.TheVariants.{BeforeHead, InBody, AfterTrailer, InSession}
use Rattle.h3_connection.specs.PullCuts.{piece_in, HaveBytes, DifferInCuts, IsFront, PullsAlike, Same, Bodies, Raws}
use Rattle.h3_connection.specs.StrictConnection.{kinds_of, is_no_session}

-- the same bytes in other pieces
pub record Cuts (t u : List (List ℕ)) : Type 0 where
  pub bytes : concat u ≡ concat t
  pub first : HaveBytes t
  pub second : HaveBytes u

abbrev with_pieces : Incoming → List (List ℕ) → Incoming
with_pieces i u = record i { unread = u }

-- what is passed ends within the first piece, or past it
pub passed_within : (n : ℕ) (p : List ℕ) (pieces : List (List ℕ)) → 0 < n → n < length p → without n (p ∷ pieces) ≡ drop n p ∷ pieces
passed_within zero p pieces some h = absurd (omega (arith, some))
passed_within (suc n) p pieces some h = ap (λ b. if b then drop (suc n) p ∷ pieces else without (suc n - length p) pieces) (lt-ltb (suc n) (length p) h)

pub passed_whole : (n : ℕ) (p : List ℕ) (pieces : List (List ℕ)) → 0 < n → length p ≤ n → without n (p ∷ pieces) ≡ without (n - length p) pieces
passed_whole zero p pieces some h = absurd (omega (arith, some))
passed_whole (suc n) p pieces some h = ap (λ b. if b then drop (suc n) p ∷ pieces else without (suc n - length p) pieces) (le-ltb (suc n) (length p) h)

pub have_without : (n : ℕ) (pieces : List (List ℕ)) → HaveBytes pieces → HaveBytes (without n pieces)
have_without n [] h = tt
have_without zero (p ∷ pieces) h = h
have_without (suc n) (p ∷ pieces) h = elim (cases_lt (suc n) (length p)) [
  | inl inside ↦ subst HaveBytes (sym (passed_within (suc n) p pieces (omega arith) inside)) (omega (arith, inside, length-drop (suc n) p), h.1)
  | inr past ↦ subst HaveBytes (sym (passed_whole (suc n) p pieces (omega arith) past)) (have_without (suc n - length p) pieces h.1)
]

cuts_ending : (n : ℕ) (t u : List (List ℕ)) → Cuts t u → Cuts (ending n t) (ending n u)
cuts_ending n t u c = record {
  bytes = concat-without (length (concat u) - n) u ∙ ap (λ l. drop (length l - n) l) c.bytes ∙ sym (concat-without (length (concat t) - n) t);
  first = have_without (length (concat t) - n) t c.first;
  second = have_without (length (concat u) - n) u c.second;
}

-- of two fronts of the same bytes one is a front of the other
same_head : {x y : ℕ} {xs ys : List ℕ} → (x ∷ xs) ≡ (y ∷ ys) → (x ≡ y) × (xs ≡ ys)
same_head e = (cc, cc)

pub two_fronts : (x y r s : List ℕ) → x ++ r ≡ y ++ s → IsFront x y ⊎ IsFront y x
two_fronts [] y r s e = inl (y, refl)
two_fronts (a ∷ x) [] r s e = inr (a ∷ x, refl)
two_fronts (a ∷ x) (b ∷ y) r s e =
    let same = same_head e in
    elim (two_fronts x y r s same.1) [
      | inl f ↦ inl (f.0, ap (λ l. b ∷ l) f.1 ∙ ap (λ c. c ∷ (x ++ f.0)) (sym same.0))
      | inr f ↦ inr (f.0, ap (λ l. a ∷ l) f.1 ∙ ap (λ c. c ∷ (y ++ f.0)) same.0)
    ]

-- A receiver in a payload that the end does not cut short, and that is not longer than the content may be.
pub record Payload (i : Incoming) : Type 0 where
  pub no_fault : i.fault ≡ None
  pub not_over : i.is_over ≡ false
  pub message : i.place ≢ InSession
  pub no_section : i.section ≡ None
  pub some : 0 < i.body_left
  pub within : is_exceeded i.content ≡ false
  pub whole : (i.ended && nat_lt (length (concat i.unread)) i.body_left) ≡ false

-- A receiver in a session.
pub record InASession (i : Incoming) : Type 0 where
  pub no_fault : i.fault ≡ None
  pub not_over : i.is_over ≡ false
  pub session : i.place ≡ InSession

-- What two pulls do, of receivers with at most so many bytes unread: they hand out no piece, or each one where the receivers are in a
-- payload or in a session, frames in front of it passed.
pub data Pulls (size : ℕ) (p q : Pulled) : Type 0 where
  Other : piece_in p.answer ≡ None → p.answer ≡ q.answer → p.replies ≡ q.replies → DifferInCuts p.incoming q.incoming → Pulls size p q
  OfPayload : (i j : Incoming) → Payload i → DifferInCuts i j → 0 < length (concat i.unread) → length (concat i.unread) ≤ size → p ≡ in_payload i → q ≡ in_payload j → Pulls size p q
  OfSession : (i j : Incoming) → InASession i → DifferInCuts i j → length (concat i.unread) ≤ size → p ≡ raw i → q ≡ raw j → Pulls size p q

-- the receiver that goes on, with at most so many bytes
record Goes (size : ℕ) (i : Incoming) (u : List (List ℕ)) : Type 0 where
  no_fault : i.fault ≡ None
  not_over : i.is_over ≡ false
  cuts : Cuts i.unread u
  few : length (concat i.unread) ≤ size

leaf : (size : ℕ) (answer : Pull) (i : Incoming) (u : List (List ℕ)) (replies : List DecoderInstruction) → piece_in answer ≡ None → Cuts i.unread u
    → Pulls size (record { answer = answer; incoming = i; replies = replies }) (record { answer = answer; incoming = with_pieces i u; replies = replies })
leaf size answer i u replies none c = Other none refl refl (record { bytes = c.bytes; same = refl; first = c.first; second = c.second })

-- nothing is left
emptied : (size : ℕ) (p : Pulled) → piece_in p.answer ≡ None → HaveBytes p.incoming.unread → Pulls size p p
emptied size p none h = Other none refl refl (record { bytes = refl; same = refl; first = h; second = h })

either : (size : ℕ) (b : Bool) (x y z w : Pulled) → Pulls size x z → Pulls size y w → Pulls size (if b then x else y) (if b then z else w)
either size true x y z w h k = h
either size false x y z w h k = k

if_left : (size k : ℕ) (x y z w : Pulled) → (0 < k → Pulls size x z) → Pulls size y w → Pulls size (if nat_lt 0 k then x else y) (if nat_lt 0 k then z else w)
if_left size k x y z w h g = elim (cases_lt 0 k) [
  | inl some ↦ rw (lt-ltb 0 k some) (h some)
  | inr none ↦ rw (le-ltb 0 k none) g
]

pulls_as : (size : ℕ) (p q x y : Pulled) → p ≡ x → q ≡ y → Pulls size x y → Pulls size p q
pulls_as size p q x y e f h = subst (λ z. Pulls size z q) (sym e) (subst (λ z. Pulls size x z) (sym f) h)

-- the first piece, as far as a payload goes
pub record Chunk (n : ℕ) (pieces : List (List ℕ)) : Type 0 where
  pub front : List ℕ
  pub others : List (List ℕ)
  pub is : chunk_of n pieces ≡ (Some front, others)
  pub bytes : front ++ concat others ≡ concat pieces
  pub few : length front ≤ n
  pub some : 0 < n → 0 < length front
  pub have : HaveBytes others

-- the first piece is longer, or is taken whole
pub chunk_cut : (n : ℕ) (p : List ℕ) (pieces : List (List ℕ)) → n < length p → chunk_of n (p ∷ pieces) ≡ (Some (take n p), drop n p ∷ pieces)
chunk_cut n p pieces more = rw (lt-leb (length p) n more) refl

pub chunk_whole : (n : ℕ) (p : List ℕ) (pieces : List (List ℕ)) → length p ≤ n → chunk_of n (p ∷ pieces) ≡ (Some p, pieces)
chunk_whole n p pieces all = rw (le-leb (length p) n all) refl

pub chunk : (n : ℕ) (p : List ℕ) (pieces : List (List ℕ)) → HaveBytes (p ∷ pieces) → Chunk n (p ∷ pieces)
chunk n p pieces h = elim (cases_lt n (length p)) [
  | inl more ↦ record {
    front = take n p;
    others = drop n p ∷ pieces;
    is = chunk_cut n p pieces more;
    bytes = sym (append_assoc (take n p) (drop n p) (concat pieces)) ∙ ap (λ l. l ++ concat pieces) (take-append-drop n p);
    few = omega (arith, length-take n p);
    some = λ first. omega (arith, length-take n p, more, first);
    have = (omega (arith, length-drop n p, more), h.1);
  }
  | inr all ↦ record {
    front = p;
    others = pieces;
    is = chunk_whole n p pieces all;
    bytes = refl;
    few = all;
    some = λ first. h.0;
    have = h.1;
  }
]

no_bytes : (p : List ℕ) (pieces : List (List ℕ)) → HaveBytes (p ∷ pieces) → concat (p ∷ pieces) ≡ [] → ⊥
no_bytes p pieces h e = absurd (omega (arith, h.0, ap length e, length-append p (concat pieces)))

pub no_pieces : (t : List (List ℕ)) → HaveBytes t → length (concat t) ≤ 0 → t ≡ []
no_pieces [] h e = refl
no_pieces (p ∷ t) h e = absurd (omega (arith, h.0, e, length-append p (concat t)))

-- a payload of which nothing came
pending : (i : Incoming) → (i.ended && nat_lt (length (concat i.unread)) i.body_left) ≡ false → i.unread ≡ [] → in_payload i ≡ just pull.Pending i
pending i whole none = ap (λ b. if b then connection_fault frame_error i else body_of i (chunk_of i.body_left i.unread)) whole ∙ ap (λ t. body_of i (chunk_of i.body_left t)) none

payload_alike : (size : ℕ) (i : Incoming) (u : List (List ℕ)) → 0 < i.body_left → i.place ≢ InSession → i.section ≡ None → is_exceeded i.content ≡ false → Goes size i u → Pulls size (in_payload i) (in_payload (with_pieces i u))
payload_alike size i u some message none within g = by_test (i.ended && nat_lt (length (concat i.unread)) i.body_left) refl
  where
    j : Incoming
    j = with_pieces i u

    test_of : (i.ended && nat_lt (length (concat u)) i.body_left) ≡ (i.ended && nat_lt (length (concat i.unread)) i.body_left)
    test_of = ap (λ (l : List ℕ). i.ended && nat_lt (length l) i.body_left) g.cuts.bytes

    by_test : (b : Bool) → (i.ended && nat_lt (length (concat i.unread)) i.body_left) ≡ b → Pulls size (in_payload i) (in_payload j)
    by_test true is =
        pulls_as size _ _ (connection_fault frame_error i) (connection_fault frame_error j)
        (ap (λ b. if b then connection_fault frame_error i else body_of i (chunk_of i.body_left i.unread)) is)
        (ap (λ b. if b then connection_fault frame_error j else body_of j (chunk_of i.body_left u)) (test_of ∙ is)) (leaf size _ i u [] refl g.cuts)
    by_test false is = elim (cases_lt 0 (length (concat i.unread))) [
      | inl there ↦ OfPayload i j (record { no_fault = g.no_fault; not_over = g.not_over; message = message; no_section = none; some = some; within = within; whole = is })
          (record { bytes = g.cuts.bytes; same = refl; first = g.cuts.first; second = g.cuts.second }) there g.few refl refl
      | inr empty ↦
          let second : length (concat u) ≤ 0 = omega (arith, empty, ap length g.cuts.bytes) in
          pulls_as size _ _ (just pull.Pending i) (just pull.Pending j) (pending i is (no_pieces i.unread g.cuts.first empty)) (pending j (test_of ∙ is) (no_pieces u g.cuts.second second))
          (leaf size pull.Pending i u [] refl g.cuts)
    ]

gives_up : (size id : ℕ) (m : Malformation) (i : Incoming) (u : List (List ℕ)) (replies : List DecoderInstruction) → Pulls size (malformed id m i replies) (malformed id m (with_pieces i u) replies)
gives_up size id m i u replies = emptied size (malformed id m i replies) refl tt

content_alike : (size id : ℕ) (i : Incoming) (u : List (List ℕ)) → 0 < i.body_left → i.place ≢ InSession → i.section ≡ None → Goes size i u → Pulls size (at_payload id i) (at_payload id (with_pieces i u))
content_alike size id i u some message none g = by_test (is_exceeded i.content) refl
  where
    by_test : (b : Bool) → is_exceeded i.content ≡ b
        → Pulls size (if b then malformed id malformation.ContentLength i [] else in_payload i) (if b then malformed id malformation.ContentLength (with_pieces i u) [] else in_payload (with_pieces i u))
    by_test true is = gives_up size id malformation.ContentLength i u []
    by_test false is = payload_alike size i u some message none is g

unbroken_alike : (size id : ℕ) (i : Incoming) (u : List (List ℕ)) (replies : List DecoderInstruction) (broken : Option Malformation) (p q : Pulled) → Pulls size p q
    → Pulls size (unless_broken id i replies broken p) (unless_broken id (with_pieces i u) replies broken q)
unbroken_alike size id i u replies None p q h = h
unbroken_alike size id i u replies (Some why) p q h = gives_up size id why i u replies

head_alike : (size : ℕ) (side : Side) (id : ℕ) (i : Incoming) (u : List (List ℕ)) (replies : List DecoderInstruction) (broken : Option Malformation) (h : Head) → Cuts i.unread u
    → Pulls size (whole_head side id i replies broken h) (whole_head side id (with_pieces i u) replies broken h)
head_alike size side id i u replies broken h c =
    either size (not (is_for side h)) _ _ _ _ (gives_up size id _ i u replies) (unbroken_alike size id i u replies broken _ _
    (either size (is_client side && is_interim h.status) _ _ _ _ (leaf size _ i u replies refl c) (leaf size _ (record i { place = InBody }) u replies refl c)))

trailer_alike : (size id : ℕ) (i : Incoming) (u : List (List ℕ)) (replies : List DecoderInstruction) (broken : Option Malformation) (h : Head) → Cuts i.unread u
    → Pulls size (whole_trailer id i replies broken h) (whole_trailer id (with_pieces i u) replies broken h)
trailer_alike size id i u replies broken h c =
    either size (has_pseudo h) _ _ _ _ (gives_up size id _ i u replies) (unbroken_alike size id i u replies broken _ _ (leaf size _ (record i { place = AfterTrailer }) u replies refl c))

either_alike : (size : ℕ) (side : Side) (id : ℕ) (i : Incoming) (u : List (List ℕ)) (replies : List DecoderInstruction) (broken : Option Malformation) (place : Place) (h : Head) → Cuts i.unread u
    → Pulls size (head_or_trailer side id i replies broken place h) (head_or_trailer side id (with_pieces i u) replies broken place h)
either_alike size side id i u replies broken BeforeHead h c = head_alike size side id i u replies broken h c
either_alike size side id i u replies broken InBody h c = trailer_alike size id i u replies broken h c
either_alike size side id i u replies broken AfterTrailer h c = trailer_alike size id i u replies broken h c
either_alike size side id i u replies broken InSession h c = trailer_alike size id i u replies broken h c

judged_alike : (size : ℕ) (side : Side) (id : ℕ) (i : Incoming) (u : List (List ℕ)) (replies : List DecoderInstruction) (broken : Option Malformation) (read : HeadRead) → Cuts i.unread u
    → Pulls size (judged side id i replies broken read) (judged side id (with_pieces i u) replies broken read)
judged_alike size side id i u replies broken (IsNone why) c = gives_up size id _ i u replies
judged_alike size side id i u replies broken (IsHead h) c = either_alike size side id i u replies broken i.place h c

above_none : (n : ℕ) → (n == 0) ≡ false → 0 < n
above_none zero e = absurd (cc)
above_none (suc n) e = omega arith

goes_ending : {size : ℕ} (i : Incoming) (u : List (List ℕ)) (n : ℕ) → Goes size i u → Goes size (record i { unread = ending n i.unread }) (ending n u)
goes_ending i u n g =
    let count = length (concat i.unread) - n in
    record {
      no_fault = g.no_fault;
      not_over = g.not_over;
      cuts = cuts_ending n i.unread u g.cuts;
      few = omega (arith, g.few, ap length (concat-without count i.unread), length-drop count (concat i.unread));
    }

module _ (size : ℕ) (side : Side) (own : Announced) (id : ℕ) (r : DecoderState) where
  read_alike : (i : Incoming) (u : List (List ℕ)) (replies : List DecoderInstruction) (fields : List Field) → Cuts i.unread u → Pulls size (read_section side own id r i replies fields) (read_section side own id r (with_pieces i u) replies fields)
  read_alike i u replies fields c = either size (nat_lt (section_of own) (told_size fields)) _ _ _ _ (leaf size _ _ u replies refl c) (judged_alike size side id (with_content side own i fields) u replies (if_whole i.content (broken_rule side own i.place fields)) (head_by own.choices.extensions.any_protocol fields) c)

  decoded_alike : (i : Incoming) (u : List (List ℕ)) (d : DecodedSection) → Cuts i.unread u → Pulls size (decoded side own id r i d) (decoded side own id r (with_pieces i u) d)
  decoded_alike i u (Fields fields count) c = read_alike (past_section i) u _ fields c
  decoded_alike i u (Missing count) c = either size (i.waits_for == 0) _ _ _ _ (leaf size _ _ u [] refl c) (leaf size _ (past_section i) u [] refl c)
  decoded_alike i u BadSection c = leaf size _ (past_section i) u [] refl c

  section_alike : (i : Incoming) (u : List (List ℕ)) (bytes : List ℕ) → Cuts i.unread u → Pulls size (at_section side own id r i bytes) (at_section side own id r (with_pieces i u) bytes)
  section_alike i u bytes c = either size (nat_lt r.table.inserted i.waits_for) _ _ _ _ (leaf size _ i u [] refl c) (decoded_alike i u (decode_section r bytes) c)

  new_alike : (i : Incoming) (u : List (List ℕ)) (bytes : List ℕ) → Cuts i.unread u → Pulls size (new_section side own id r i bytes) (new_section side own id r (with_pieces i u) bytes)
  new_alike i u bytes c = section_alike (begun_section i bytes) u bytes c

  trailer_frame_alike : (i : Incoming) (u : List (List ℕ)) (bytes : List ℕ) → Cuts i.unread u → Pulls size (at_trailer side own id r i bytes) (at_trailer side own id r (with_pieces i u) bytes)
  trailer_frame_alike i u bytes c = either size (takes_trailer i.content) _ _ _ _ (new_alike i u bytes c) (leaf size _ i u [] refl c)

  whole_alike : (i : Incoming) (u : List (List ℕ)) (b : Bool)
      → Pulls size (if b then just (pull.Item item.End) (record i { unread = []; is_over = true }) else malformed id malformation.ContentLength i [])
      (if b then just (pull.Item item.End) (record i { unread = []; is_over = true }) else malformed id malformation.ContentLength (with_pieces i u) [])
  whole_alike i u b = either size b _ _ _ _ (emptied size (just (pull.Item item.End) (record i { unread = []; is_over = true })) refl tt) (gives_up size id malformation.ContentLength i u [])

  end_alike : (i : Incoming) (u : List (List ℕ)) (place : Place) → Pulls size (at_end side own id r i place) (at_end side own id r (with_pieces i u) place)
  end_alike i u BeforeHead = gives_up size id _ i u []
  end_alike i u InBody = whole_alike i u (may_end i.content)
  end_alike i u AfterTrailer = whole_alike i u (may_end i.content)
  end_alike i u InSession = whole_alike i u (may_end i.content)

  -- a frame of DATA that is not empty begins a payload
  begun_alike : (i : Incoming) (u : List (List ℕ)) (n : ℕ) → (n == 0) ≡ false → i.place ≢ InSession → i.section ≡ None → Goes size i u → Pulls size (at_payload id (begun_payload i n)) (at_payload id (begun_payload (with_pieces i u) n))
  begun_alike i u n full message none g =
      content_alike size id (begun_payload i n) u (above_none n full) message none (record { no_fault = g.no_fault; not_over = g.not_over; cuts = g.cuts; few = g.few })

  frame_alike : (side' : Side) (i : Incoming) (u : List (List ℕ)) (place : Place) (f : Frame PayloadLen) → (is_body place && is_empty_data f) ≡ false → i.place ≢ InSession → i.section ≡ None → Goes size i u
      → Pulls size (at_frame side own id r side' i place f) (at_frame side own id r side' (with_pieces i u) place f)
  frame_alike Client i u BeforeHead (frame.Headers bytes) full message none g = new_alike i u bytes g.cuts
  frame_alike Server i u BeforeHead (frame.Headers bytes) full message none g = new_alike i u bytes g.cuts
  frame_alike Client i u InBody (frame.Headers bytes) full message none g = trailer_frame_alike i u bytes g.cuts
  frame_alike Server i u InBody (frame.Headers bytes) full message none g = trailer_frame_alike i u bytes g.cuts
  frame_alike Client i u InBody (frame.Data len) full message none g = begun_alike i u len.0 full message none g
  frame_alike Server i u InBody (frame.Data len) full message none g = begun_alike i u len.0 full message none g
  frame_alike Server i u BeforeHead (frame.WebTransportStream session) full message none g =
      either size (is_no_session own session) _ _ _ _ (leaf size _ i u [] refl g.cuts) (leaf size _ (record i { place = InSession }) u [] refl g.cuts)
  frame_alike Client i u place (frame.PushPromise promise) full message none g = leaf size _ i u [] refl g.cuts
  frame_alike _ i u place _ full message none g = leaf size _ i u [] refl g.cuts

  -- what stands in front is no empty payload
  abbrev IsFull : Bool → Front → Type 0
  IsFull in_body front = (f : Frame PayloadLen) (rest : List ℕ) → front ≡ Whole f rest → (in_body && is_empty_data f) ≡ false

  framed_alike : (i : Incoming) (u : List (List ℕ)) (front : Front) → IsFull (is_body i.place) front → i.place ≢ InSession → i.section ≡ None → Goes size i u
      → Pulls size (framed side own id r i front) (framed side own id r (with_pieces i u) front)
  framed_alike i u (Unfinished least) full message none g = either size i.ended _ _ _ _ (leaf size _ i u [] refl g.cuts) (leaf size _ i u [] refl g.cuts)
  framed_alike i u (Whole f rest) full message none g =
      frame_alike side (left_with i rest) (ending (length rest) u) i.place f (full f rest refl) message none (goes_ending i u (length rest) g)
  framed_alike i u (Unknown kind rest) full message none g = leaf size _ i u [] refl g.cuts
  framed_alike i u (Refused e) full message none g = leaf size _ i u [] refl g.cuts

  next_alike : (i : Incoming) (u : List (List ℕ)) (bytes : List ℕ) → IsFull (is_body i.place) (frame_by (kinds_of own) bytes) → i.place ≢ InSession → i.section ≡ None → Goes size i u
      → Pulls size (next_frame side own id r i bytes) (next_frame side own id r (with_pieces i u) bytes)
  next_alike i u [] full message none g = either size i.ended _ _ _ _ (end_alike i u i.place) (leaf size _ i u [] refl g.cuts)
  next_alike i u (byte ∷ bytes) full message none g = framed_alike i u (frame_by (kinds_of own) (byte ∷ bytes)) full message none g

  excess_alike : (i : Incoming) (u : List (List ℕ)) (bytes : List ℕ) → Pulls size (excess id i bytes) (excess id (with_pieces i u) bytes)
  excess_alike i u bytes =
      either size (begins_section bytes) (malformed id malformation.TooLong i []) (connection_fault 0x107 (record i { unread = [] }))
      (malformed id malformation.TooLong (with_pieces i u) []) (connection_fault 0x107 (record i { unread = [] }))
      (gives_up size id malformation.TooLong i u []) (emptied size (connection_fault 0x107 (record i { unread = [] })) refl tt)

  between_alike : (i : Incoming) (u : List (List ℕ)) → i.place ≢ InSession → i.section ≡ None → Goes size i u → Pulls size (between_frames side own id r i) (between_frames side own id r (with_pieces i u))
  between_alike i u message none g =
      let bytes = skipped (kinds_of own) (is_body i.place) (concat i.unread) in
      subst (λ l. Pulls size (between_frames side own id r i)
      (if is_excessive_by (kinds_of own) own.choices.unfinished_limit (skipped (kinds_of own) (is_body i.place) l) then excess id (with_pieces i u) (skipped (kinds_of own) (is_body i.place) l)
      else next_frame side own id r (left_with (with_pieces i u) (skipped (kinds_of own) (is_body i.place) l)) (skipped (kinds_of own) (is_body i.place) l))) (sym g.cuts.bytes)
      (either size (is_excessive_by (kinds_of own) own.choices.unfinished_limit bytes) (excess id i bytes) _ (excess id (with_pieces i u) bytes) _ (excess_alike i u bytes)
      (next_alike (left_with i bytes) (ending (length bytes) u) bytes (λ f rest e. found_not_empty (kinds_of own) (is_body i.place) (concat i.unread) rest f e) message none (goes_ending i u (length bytes) g)))

  message_alike : (i : Incoming) (u : List (List ℕ)) (section : Option (List ℕ)) → i.section ≡ section → i.place ≢ InSession → Goes size i u → Pulls size (in_message side own id r i section) (in_message side own id r (with_pieces i u) section)
  message_alike i u (Some bytes) is message g = section_alike i u bytes g.cuts
  message_alike i u None is message g = if_left size i.body_left _ _ _ _ (λ some. content_alike size id i u some message is g) (between_alike i u message is g)

  item_alike : (i : Incoming) (u : List (List ℕ)) (place : Place) → i.place ≡ place → Goes size i u → Pulls size (next_item side own id r i place) (next_item side own id r (with_pieces i u) place)
  item_alike i u InSession is g =
      OfSession i (with_pieces i u) (record { no_fault = g.no_fault; not_over = g.not_over; session = is }) (record { bytes = g.cuts.bytes; same = refl; first = g.cuts.first; second = g.cuts.second }) g.few refl refl
  item_alike i u BeforeHead is g = message_alike i u i.section refl (λ e. let wrong : BeforeHead ≡ InSession = sym is ∙ e in absurd (cc)) g
  item_alike i u InBody is g = message_alike i u i.section refl (λ e. let wrong : InBody ≡ InSession = sym is ∙ e in absurd (cc)) g
  item_alike i u AfterTrailer is g = message_alike i u i.section refl (λ e. let wrong : AfterTrailer ≡ InSession = sym is ∙ e in absurd (cc)) g

  alike : (i : Incoming) (u : List (List ℕ)) → length (concat i.unread) ≤ size → Cuts i.unread u → Pulls size (pull_stream side own id r i) (pull_stream side own id r (with_pieces i u))
  unfolding pull_stream
  alike i u few c = by_fault i.fault refl
    where
      over : (b : Bool) → i.is_over ≡ b → i.fault ≡ None
          → Pulls size (if b then just (pull.Item item.End) i else next_item side own id r i i.place) (if b then just (pull.Item item.End) (with_pieces i u) else next_item side own id r (with_pieces i u) i.place)
      over true is none = leaf size _ i u [] refl c
      over false is none = item_alike i u i.place refl (record { no_fault = none; not_over = is; cuts = c; few = few })

      by_fault : (f : Option StreamFault) → i.fault ≡ f → Pulls size (elim f [ Some why ↦ just (pull.Fault (fault.Stream why)) i | None ↦ if i.is_over then just (pull.Item item.End) i else next_item side own id r i i.place ])
          (elim f [ Some why ↦ just (pull.Fault (fault.Stream why)) (with_pieces i u) | None ↦ if i.is_over then just (pull.Item item.End) (with_pieces i u) else next_item side own id r (with_pieces i u) i.place ])
      by_fault (Some why) is = leaf size _ i u [] refl c
      by_fault None is = over i.is_over refl is

pub cut_pulls : (side : Side) (own : Announced) (id : ℕ) (r : DecoderState) (i j : Incoming) → DifferInCuts i j → Pulls (length (concat i.unread)) (pull_stream side own id r i) (pull_stream side own id r j)
cut_pulls side own id r i j d =
    let size = length (concat i.unread) in
    subst (λ x. Pulls size (pull_stream side own id r i) (pull_stream side own id r x)) (sym d.same) (alike size side own id r i j.unread (omega arith) (record { bytes = d.bytes; first = d.first; second = d.second }))

-- what of that is seen of the answers
chunks_alike : (i : Incoming) (t u : List (List ℕ)) → Cuts t u → PullsAlike (body_of (with_pieces i t) (chunk_of i.body_left t)) (body_of (with_pieces i u) (chunk_of i.body_left u))
chunks_alike i [] [] c = Same refl refl (record { bytes = refl; same = refl; first = tt; second = tt })
chunks_alike i [] (q ∷ u) c = absurd (no_bytes q u c.second c.bytes)
chunks_alike i (p ∷ t) [] c = absurd (no_bytes p t c.first (sym c.bytes))
chunks_alike i (p ∷ t) (q ∷ u) c =
    let x = chunk i.body_left p t c.first in
    let y = chunk i.body_left q u c.second in
    let all : x.front ++ concat x.others ≡ y.front ++ concat y.others = x.bytes ∙ sym c.bytes ∙ sym y.bytes in
    let left : length x.front + (i.body_left - length x.front) ≡ length y.front + (i.body_left - length y.front) = omega (arith, x.few, y.few) in
    subst (λ z. PullsAlike (body_of (with_pieces i (p ∷ t)) z) (body_of (with_pieces i (q ∷ u)) (chunk_of i.body_left (q ∷ u)))) (sym x.is)
    (subst (λ z. PullsAlike (body_of (with_pieces i (p ∷ t)) (Some x.front, x.others)) (body_of (with_pieces i (q ∷ u)) z)) (sym y.is)
    (Bodies x.front y.front refl refl left
    (record { front = two_fronts x.front y.front _ _ all; bytes = all; same = refl; replies = (refl, refl); first = x.have; second = y.have })))

raws_alike : (i : Incoming) (t u : List (List ℕ)) → Cuts t u → PullsAlike (raw_of (with_pieces i t) (first_of t)) (raw_of (with_pieces i u) (first_of u))
raws_alike i [] [] c = by_end i.ended
  where
    j : Incoming
    j = with_pieces i []

    same : (p : Pulled) → p.incoming.unread ≡ [] → PullsAlike p p
    same p none = let h : HaveBytes p.incoming.unread = subst HaveBytes (sym none) tt in Same refl refl (record { bytes = refl; same = refl; first = h; second = h })

    by_end : (b : Bool) → PullsAlike (if b then just (pull.Item item.End) (record j { is_over = true }) else just pull.Pending j) (if b then just (pull.Item item.End) (record j { is_over = true }) else just pull.Pending j)
    by_end true = same _ refl
    by_end false = same _ refl
raws_alike i [] (q ∷ u) c = absurd (no_bytes q u c.second c.bytes)
raws_alike i (p ∷ t) [] c = absurd (no_bytes p t c.first (sym c.bytes))
raws_alike i (p ∷ t) (q ∷ u) c =
    Raws p q refl refl refl (record { front = two_fronts p q (concat t) (concat u) (sym c.bytes); bytes = sym c.bytes; same = refl; replies = (refl, refl); first = c.first.1; second = c.second.1 })

pub in_chunk : (i : Incoming) → Payload i → in_payload i ≡ body_of i (chunk_of i.body_left i.unread)
in_chunk i h = ap (λ b. if b then connection_fault frame_error i else body_of i (chunk_of i.body_left i.unread)) h.whole

-- a payload is whole or cut short by its bytes alone
pub payload_too : (i j : Incoming) → DifferInCuts i j → Payload i → Payload j
payload_too i j d h = subst Payload (sym d.same) (record {
  no_fault = h.no_fault;
  not_over = h.not_over;
  message = h.message;
  no_section = h.no_section;
  some = h.some;
  within = h.within;
  whole = ap (λ (l : List ℕ). i.ended && nat_lt (length l) i.body_left) d.bytes ∙ h.whole;
})

shown : (size : ℕ) (p q : Pulled) → Pulls size p q → PullsAlike p q
shown size p q (Other none answer replies d) = Same answer replies d
shown size p q (OfPayload i j h d some few e f) =
    let cuts : Cuts i.unread j.unread = record { bytes = d.bytes; first = d.first; second = d.second } in
    subst (λ z. PullsAlike z q) (sym (e ∙ in_chunk i h))
    (subst (λ z. PullsAlike (body_of i (chunk_of i.body_left i.unread)) z) (sym (f ∙ in_chunk j (payload_too i j d h) ∙ ap (λ (x : Incoming). body_of x (chunk_of x.body_left x.unread)) d.same)) (chunks_alike i i.unread j.unread cuts))
shown size p q (OfSession i j h d few e f) =
    let cuts : Cuts i.unread j.unread = record { bytes = d.bytes; first = d.first; second = d.second } in
    subst (λ z. PullsAlike z q) (sym e) (subst (λ z. PullsAlike (raw i) z) (sym (f ∙ ap raw d.same)) (raws_alike i i.unread j.unread cuts))

pub cut_pulled : (side : Side) (own : Announced) (id : ℕ) (r : DecoderState) (i j : Incoming) → DifferInCuts i j → PullsAlike (pull_stream side own id r i) (pull_stream side own id r j)
cut_pulled side own id r i j d = shown _ _ _ (cut_pulls side own id r i j d)

-- what a delivery adds
pub piece_bytes : (t : List (List ℕ)) (bytes : List ℕ) → concat (with_piece t bytes) ≡ concat t ++ bytes
piece_bytes t [] = sym (append-nil (concat t))
piece_bytes t (byte ∷ bytes) = concat-append t ((byte ∷ bytes) ∷ []) ∙ ap (λ l. concat t ++ l) (append-nil (byte ∷ bytes))

one_more : (t : List (List ℕ)) (byte : ℕ) (bytes : List ℕ) → HaveBytes t → HaveBytes (t ++ (byte ∷ bytes) ∷ [])
one_more [] byte bytes h = (omega arith, tt)
one_more (p ∷ t) byte bytes h = (h.0, one_more t byte bytes h.1)

pub have_piece : (t : List (List ℕ)) (bytes : List ℕ) → HaveBytes t → HaveBytes (with_piece t bytes)
have_piece t [] h = h
have_piece t (byte ∷ bytes) h = one_more t byte bytes h

-- bytes that come in one delivery or in two
pub delivered_differ : (i : Incoming) (a b : List ℕ) → HaveBytes i.unread → DifferInCuts (kept i (a ++ b)) (kept (kept i a) b)
delivered_differ i a b h = by_fault (is_some i.fault)
  where
    by_fault : (given : Bool) → DifferInCuts (record i { unread = if given then [] else with_piece i.unread (a ++ b) }) (record i { unread = if given then [] else with_piece (if given then [] else with_piece i.unread a) b })
    by_fault true = record { bytes = refl; same = refl; first = tt; second = tt }
    by_fault false = record {
      bytes =
          piece_bytes (with_piece i.unread a) b ∙ ap (λ l. l ++ b) (piece_bytes i.unread a) ∙ append_assoc (concat i.unread) a b
          ∙ sym (piece_bytes i.unread (a ++ b));
      same = refl;
      first = have_piece i.unread (a ++ b) h;
      second = have_piece (with_piece i.unread a) b (have_piece i.unread a h);
    }
