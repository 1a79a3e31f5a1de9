-- What was sent stays as it was sent when more is.
use Rattle.std.proofs.Common.{◌≡◌, ℕ, zero, suc, ◌+◌, ◌-◌, ◌≤◌, Bool, List, [], ◌∷◌, ◌++◌, length, take, refl, sym, arith, if◌then◌else◌, Option, Some, None, length-append, subst}
use Rattle.std.specs.List.{flat_map, count_by}
use Rattle.std.proofs.lemmas.Grind.{common_steps}
use Rattle.std.proofs.lemmas.List.Sums.{sum_by-cons}
use Rattle.h3_coding.specs.Encodings.{encoding}
use Rattle.h3_field.specs.Instruction.{EncoderInstruction, encoder_bytes}
use Rattle.h3_qpack.specs.WholeInstructions.{whole_in, insertions_in, is_insertion}
use Rattle.h3_world.specs.Flow.{Part, Section, part_bytes}
use Rattle.h3_world.specs.Flow.Part.{Interim, Head, Body, Trailer, End}
use Rattle.h3_world.specs.World.{Party}
use Rattle.h3_world.specs.OwnStreams.{encoder_stream}
use Rattle.h3_world.specs.Order.{last_part}
use Rattle.h3_world.specs.Sound.{IsSentSection, IsSentPart, MayFollow, AreSent}

-- more units, at least as many whole ones
whole_longer : {X : Type 0} (bytes_of : X → List ℕ) (count : ℕ) (xs ys : List X) → whole_in bytes_of count xs ≤ whole_in bytes_of count (xs ++ ys)
whole_longer bytes_of count [] ys = omega arith
whole_longer bytes_of count (x ∷ xs) ys = grind (arith, common_steps, whole_longer bytes_of (count - length (bytes_of x)) xs ys)

front_longer : {X : Type 0} (test : X → Bool) (few many : ℕ) (xs ys : List X) → few ≤ many → count_by test (take few xs) ≤ count_by test (take many (xs ++ ys))
front_longer test few many [] ys h = grind (arith, common_steps)
front_longer test zero many (x ∷ xs) ys h = grind (arith, common_steps)
front_longer test (suc few) zero (x ∷ xs) ys h = absurd (omega (arith, h))
front_longer test (suc few) (suc many) (x ∷ xs) ys h =
    omega (arith, front_longer test few many xs ys (omega (arith, h)), sum_by-cons (λ i. if test i then 1 else 0) x (take few xs), sum_by-cons (λ i. if test i then 1 else 0) x (take many (xs ++ ys)))

insertions_longer : (count : ℕ) (is more : List EncoderInstruction) → insertions_in count is ≤ insertions_in count (is ++ more)
insertions_longer count is more =
    front_longer is_insertion (whole_in encoder_bytes count is) (whole_in encoder_bytes count (is ++ more)) is more (whole_longer encoder_bytes count is more)

bytes_longer : (is more : List EncoderInstruction) → length (flat_map encoder_bytes is) ≤ length (flat_map encoder_bytes (is ++ more))
bytes_longer [] more = omega arith
bytes_longer (i ∷ is) more =
    omega (arith, bytes_longer is more, length-append (encoder_bytes i) (flat_map encoder_bytes is), length-append (encoder_bytes i) (flat_map encoder_bytes (is ++ more)))

-- the encoder wrote more
pub record HasWritten (p q : Party) : Type 0 where
  pub more : List EncoderInstruction
  pub is : q.own.instructions ≡ p.own.instructions ++ more

stream_longer : (p q : Party) → HasWritten p q → length (encoder_stream p) ≤ length (encoder_stream q)
stream_longer p q h =
    let behind : length (flat_map encoder_bytes p.own.instructions) ≤ length (flat_map encoder_bytes q.own.instructions) =
    subst (λ is. length (flat_map encoder_bytes p.own.instructions) ≤ length (flat_map encoder_bytes is)) (sym h.is) (bytes_longer p.own.instructions h.more) in
    omega (arith, behind, length-append (encoding 2) (flat_map encoder_bytes p.own.instructions), length-append (encoding 2) (flat_map encoder_bytes q.own.instructions))

section_stays : (p q : Party) (s : Section) → HasWritten p q → IsSentSection p s → IsSentSection q s
section_stays p q s h sent =
    record {
      of_bytes = sent.of_bytes;
      small = sent.small;
      has_length = sent.has_length;
      encoder = omega (arith, sent.encoder, stream_longer p q h);
      inserted = subst (λ is. s.count ≤ insertions_in (s.encoder_length - 1) is) (sym h.is) (omega (arith, sent.inserted, insertions_longer (s.encoder_length - 1) p.own.instructions h.more));
    }

part_stays : (p q : Party) (end : ℕ) (part : Part) → HasWritten p q → IsSentPart p end part → IsSentPart q end part
part_stays p q end (Interim s) h sent = (section_stays p q s h sent.0, sent.1)
part_stays p q end (Head s) h sent = (section_stays p q s h sent.0, sent.1)
part_stays p q end (Trailer s) h sent = (section_stays p q s h sent.0, sent.1)
part_stays p q end (Body bytes own) h sent = sent
part_stays p q end End h sent = tt

pub sent_stays : (p q : Party) (before : Option Part) (start : ℕ) (parts : List Part) → HasWritten p q → AreSent p before start parts → AreSent q before start parts
sent_stays p q before start [] h sent = tt
sent_stays p q before start (part ∷ parts) h sent =
    (sent.0, part_stays p q (start + length (part_bytes part)) part h sent.1, sent_stays p q (Some part) (start + length (part_bytes part)) parts h sent.2)

-- the part that a further one follows
abbrev pub last_or : Option Part → List Part → Option Part
last_or before [] = before
last_or before (p ∷ ps) = last_or (Some p) ps

last_of : (before : Option Part) (p : Part) (ps : List Part) → last_or before (p ∷ ps) ≡ last_part (p ∷ ps)
last_of before p [] = refl
last_of before p (q ∷ qs) = last_of (Some p) q qs

-- the last part of all is what a further one follows
pub last_is : (ps : List Part) → last_or None ps ≡ last_part ps
last_is [] = refl
last_is (p ∷ ps) = last_of None p ps

plus_none : (a b : ℕ) → a + 0 + b ≡ a + b
plus_none a b = omega arith

pub sent_more : (p : Party) (before : Option Part) (start : ℕ) (parts : List Part) (part : Part) → AreSent p before start parts → MayFollow (last_or before parts) part
    → IsSentPart p (start + length (flat_map part_bytes parts) + length (part_bytes part)) part → AreSent p before start (parts ++ part ∷ [])
sent_more p before start [] part sent follows is =
    (follows, subst (λ n. IsSentPart p n part) (plus_none start (length (part_bytes part))) is, tt)
sent_more p before start (q ∷ qs) part sent follows is =
    let same : start + length (flat_map part_bytes (q ∷ qs)) + length (part_bytes part) ≡ start + length (part_bytes q) + length (flat_map part_bytes qs) + length (part_bytes part) =
    omega (arith, length-append (part_bytes q) (flat_map part_bytes qs)) in
    (sent.0, sent.1, sent_more p (Some q) (start + length (part_bytes q)) qs part sent.2 follows (subst (λ n. IsSentPart p n part) same is))
