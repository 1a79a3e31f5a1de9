-- The session of a direction when its receiver hands out a section, or gives a stream up.
use Rattle.std.proofs.Common.{◌≡◌, ℕ, ◌≤◌, Bool, true, false, not, List, [], ◌∷◌, ◌++◌, refl, sym, ap, ◌∙◌, arith, Some, None}
use Rattle.std.specs.Prelude.{map, filter, ◌==◌, if◌then◌else◌, is_some, ◌||◌}
use Rattle.std.proofs.lemmas.Grind.{common_steps}
use Rattle.h3_field.specs.Instruction.DecoderInstruction.{Acknowledge, CancelStream}
use Rattle.h3_qpack.specs.Session.{Session, UndecodedSection, oldest, without_oldest, decoded, after_cancellation, is_canceled, count_of}
use Rattle.h3_qpack.specs.Schedule.SessionEvent.{Decode, Cancel}
use Rattle.h3_proto.specs.declared.stream.Side.{Side}
use Rattle.h3_world.specs.Setup.{Setup}
use Rattle.h3_connection.specs.OwnIds.{other}
use Rattle.h3_world.specs.World.{World, party}
use Rattle.h3_world.specs.Came.{settings_came, insertions_came}
use Rattle.h3_world.specs.Streams.{flow}
use Rattle.h3_world.specs.Following.{opening, EncodedSection, undecoded, sections_on, limits_for, HasSession}
use Rattle.h3_world.proofs.Grown.{steps_on}
use Rattle.h3_world.specs.Following.{sections_left, replies_left}

-- the first of the sections on a stream is its oldest one
pub record IsOldest (id : ℕ) (section : EncodedSection) (rest : List EncodedSection) (bs : List UndecodedSection) : Type 0 where
  pub b : UndecodedSection
  pub oldest_is : oldest id bs ≡ Some b
  pub stream : b.stream ≡ id
  pub is : undecoded b ≡ section
  pub behind : sections_on id (without_oldest id bs) ≡ rest

same_id : (a b : ℕ) → (a == b) ≡ true → a ≡ b
same_id a b e = grind (arith, common_steps, e)

first : (x y : EncodedSection) (xs ys : List EncodedSection) → ◌≡◌ {A = List EncodedSection} (x ∷ xs) (y ∷ ys) → (x ≡ y) × (xs ≡ ys)
first x y xs ys e = (ap (λ l. head_or l x) e, ap tail e)
  where
    head_or : List EncodedSection → EncodedSection → EncodedSection
    head_or [] d = d
    head_or (b ∷ bs) d = b

    tail : List EncodedSection → List EncodedSection
    tail [] = []
    tail (b ∷ bs) = bs

pub oldest_there : (id : ℕ) (section : EncodedSection) (rest : List EncodedSection) (bs : List UndecodedSection) → sections_on id bs ≡ section ∷ rest → IsOldest id section rest bs
oldest_there id section rest [] e = cc
oldest_there id section rest (b ∷ bs) e = by_test (oldest_there id section rest bs) (b.stream == id) refl e
  where
    by_test : (sections_on id bs ≡ section ∷ rest → IsOldest id section rest bs) → (t : Bool) → (b.stream == id) ≡ t → map undecoded (if t then b ∷ filter (λ b. b.stream == id) bs else filter (λ b. b.stream == id) bs) ≡ section ∷ rest → IsOldest id section rest (b ∷ bs)
    by_test later true is e =
        let both = first (undecoded b) section (sections_on id bs) rest e in
        record {
          b = b;
          oldest_is = ap (λ t. if t then Some b else oldest id bs) is;
          stream = same_id b.stream id is;
          is = both.0;
          behind = ap (λ t. sections_on id (if t then bs else b ∷ without_oldest id bs)) is ∙ both.1;
        }
    by_test later false is e =
        let r = later e in
        record {
          b = r.b;
          oldest_is = ap (λ t. if t then Some b else oldest id bs) is ∙ r.oldest_is;
          stream = r.stream;
          is = r.is;
          behind =
              ap (λ t. sections_on id (if t then bs else b ∷ without_oldest id bs)) is
              ∙ ap (λ t. map undecoded (if t then b ∷ filter (λ b. b.stream == id) (without_oldest id bs) else filter (λ b. b.stream == id) (without_oldest id bs))) is
              ∙ r.behind;
        }

others_stay : (id i : ℕ) (bs : List UndecodedSection) → (id == i) ≡ false → sections_on i (without_oldest id bs) ≡ sections_on i bs
others_stay id i [] e = refl
others_stay id i (b ∷ bs) e = by_test (others_stay id i bs e) (b.stream == id) refl (b.stream == i) refl
  where
    clash : b.stream ≡ id → b.stream ≡ i → ⊥
    clash x y = grind (arith, common_steps, e, x, y)

    more : sections_on i (without_oldest id bs) ≡ sections_on i bs → (t : Bool)
        → map undecoded (if t then b ∷ filter (λ b. b.stream == i) (without_oldest id bs) else filter (λ b. b.stream == i) (without_oldest id bs))
        ≡ map undecoded (if t then b ∷ filter (λ b. b.stream == i) bs else filter (λ b. b.stream == i) bs)
    more later true = ap (λ l. undecoded b ∷ l) later
    more later false = later

    by_test : sections_on i (without_oldest id bs) ≡ sections_on i bs → (t : Bool) → (b.stream == id) ≡ t → (u : Bool) → (b.stream == i) ≡ u
        → sections_on i (without_oldest id (b ∷ bs)) ≡ sections_on i (b ∷ bs)
    by_test later true is true other = absurd (clash (same_id b.stream id is) (same_id b.stream i other))
    by_test later true is false other =
        ap (λ t. sections_on i (if t then bs else b ∷ without_oldest id bs)) is
        ∙ sym (ap (λ t. map undecoded (if t then b ∷ filter (λ b. b.stream == i) bs else filter (λ b. b.stream == i) bs)) other)
    by_test later false is u other = ap (λ t. sections_on i (if t then bs else b ∷ without_oldest id bs)) is ∙ more later (b.stream == i)

-- What handing out a section changes of what the session sees.
pub record HandsOut (setup : Setup) (old new : World) (side : Side) (id : ℕ) (section : EncodedSection) (rest : List EncodedSection) : Type 0 where
  pub alive : (flow old side id).fault ≡ None
  pub next : sections_left (flow old side id) ≡ section ∷ rest
  pub there : section.count ≤ insertions_came (party old side)
  pub encoder : (party new side).encoder ≡ (party old side).encoder
  pub instructions : (party new side).own.instructions ≡ (party old side).own.instructions
  pub knows : settings_came setup new (other side) ≡ settings_came setup old (other side)
  pub received : insertions_came (party new side) ≡ insertions_came (party old side)
  pub replies : replies_left setup new side ≡ replies_left setup old side ++ (if section.count == 0 then [] else Acknowledge id ∷ [])
  pub faults : (i : ℕ) → (flow new side i).fault ≡ (flow old side i).fault
  pub sections : (i : ℕ) → sections_left (flow new side i) ≡ (if id == i then rest else sections_left (flow old side i))

pub section_out_kept : (setup : Setup) (old new : World) (side : Side) (id : ℕ) (section : EncodedSection) (rest : List EncodedSection) → HasSession setup old side
    → HandsOut setup old new side id section rest → HasSession setup new side
section_out_kept setup old new side id section rest h out =
    let s = h.session in
    let limits = limits_for setup side in
    let r = oldest_there id section rest s.sections (h.follows.sections id out.alive ∙ out.next) in
    let oldest_is : oldest r.b.stream s.sections ≡ Some r.b = ap (λ i. oldest i s.sections) r.stream ∙ r.oldest_is in
    let alive : is_canceled s r.b.stream ≡ false = ap (is_canceled s) r.stream ∙ h.follows.canceled id ∙ ap is_some out.alive in
    let count : count_of r.b ≡ section.count = ap (λ b. b.count) r.is in
    let there : count_of r.b ≤ s.received = omega (arith, count, out.there, h.follows.received) in
    let left : (i : ℕ) (t : Bool) → (id == i) ≡ t → (flow old side i).fault ≡ None → sections_on i (without_oldest r.b.stream s.sections) ≡ (if t then rest else sections_left (flow old side i)) =
    λ i t e none. left_of s r.b.stream id i section rest r t e (sections_left (flow old side i)) (h.follows.sections i none) r.stream in
    steps_on setup old new side h (Decode r.b) (decoded s r.b) tt (oldest_is, alive, there, refl) (record {
      encoder = h.follows.encoder ∙ sym out.encoder;
      instructions = out.instructions ∙ h.follows.instructions ∙ ap (λ k. (if k then opening s.encoder.most_capacity limits else []) ++ s.instructions) (sym out.knows);
      received = h.follows.received ∙ sym out.received;
      decoder_instructions =
          ap (λ l. l ++ (if count_of r.b == 0 then [] else Acknowledge r.b.stream ∷ [])) h.follows.decoder_instructions
          ∙ ap (λ n. replies_left setup old side ++ (if n == 0 then [] else Acknowledge r.b.stream ∷ [])) count
          ∙ ap (λ i. replies_left setup old side ++ (if section.count == 0 then [] else Acknowledge i ∷ [])) r.stream
          ∙ sym out.replies;
      canceled = λ i. h.follows.canceled i ∙ ap is_some (sym (out.faults i));
      sections = λ i none. left i (id == i) refl (sym (out.faults i) ∙ none) ∙ sym (out.sections i);
    })
  where
    left_of : (s : Session) (stream id i : ℕ) (section : EncodedSection) (rest : List EncodedSection) → IsOldest id section rest s.sections → (t : Bool) → (id == i) ≡ t → (before : List EncodedSection) → sections_on i s.sections ≡ before
        → stream ≡ id → sections_on i (without_oldest stream s.sections) ≡ (if t then rest else before)
    left_of s stream id i section rest r true e before was is =
        ap (λ j. sections_on i (without_oldest j s.sections)) is ∙ ap (λ j. sections_on j (without_oldest id s.sections)) (sym (same_id id i e)) ∙ r.behind
    left_of s stream id i section rest r false e before was is = ap (λ j. sections_on i (without_oldest j s.sections)) is ∙ others_stay id i s.sections e ∙ was

not_given_up : (id i : ℕ) (bs : List UndecodedSection) → (id == i) ≡ false → sections_on i (filter (λ b. not (b.stream == id)) bs) ≡ sections_on i bs
not_given_up id i [] e = refl
not_given_up id i (b ∷ bs) e = by_test (not_given_up id i bs e) (b.stream == id) refl
  where
    both : sections_on i (filter (λ b. not (b.stream == id)) bs) ≡ sections_on i bs → (t : Bool)
        → map undecoded (if t then b ∷ filter (λ b. b.stream == i) (filter (λ b. not (b.stream == id)) bs) else filter (λ b. b.stream == i) (filter (λ b. not (b.stream == id)) bs))
        ≡ map undecoded (if t then b ∷ filter (λ b. b.stream == i) bs else filter (λ b. b.stream == i) bs)
    both later true = ap (λ l. undecoded b ∷ l) later
    both later false = later

    other : b.stream ≡ id → (b.stream == i) ≡ false
    other is = ap (λ j. j == i) is ∙ e

    by_test : sections_on i (filter (λ b. not (b.stream == id)) bs) ≡ sections_on i bs → (t : Bool) → (b.stream == id) ≡ t
        → sections_on i (filter (λ b. not (b.stream == id)) (b ∷ bs)) ≡ sections_on i (b ∷ bs)
    by_test later true is =
        ap (λ t. sections_on i (if not t then b ∷ filter (λ b. not (b.stream == id)) bs else filter (λ b. not (b.stream == id)) bs)) is
        ∙ later
        ∙ sym (ap (λ t. map undecoded (if t then b ∷ filter (λ b. b.stream == i) bs else filter (λ b. b.stream == i) bs)) (other (same_id b.stream id is)))
    by_test later false is =
        ap (λ t. sections_on i (if not t then b ∷ filter (λ b. not (b.stream == id)) bs else filter (λ b. not (b.stream == id)) bs)) is
        ∙ both later (b.stream == i)

-- What giving up a stream changes of what the session sees.
pub record GivesUp (setup : Setup) (old new : World) (side : Side) (id : ℕ) : Type 0 where
  pub alive : (flow old side id).fault ≡ None
  pub fault : is_some (flow new side id).fault ≡ true
  pub encoder : (party new side).encoder ≡ (party old side).encoder
  pub instructions : (party new side).own.instructions ≡ (party old side).own.instructions
  pub knows : settings_came setup new (other side) ≡ settings_came setup old (other side)
  pub received : insertions_came (party new side) ≡ insertions_came (party old side)
  pub replies : replies_left setup new side ≡ replies_left setup old side ++ CancelStream id ∷ []
  pub faults : (i : ℕ) → (id == i) ≡ false → (flow new side i).fault ≡ (flow old side i).fault
  pub sections : (i : ℕ) → (id == i) ≡ false → sections_left (flow new side i) ≡ sections_left (flow old side i)

pub given_up_kept : (setup : Setup) (old new : World) (side : Side) (id : ℕ) → HasSession setup old side → GivesUp setup old new side id → HasSession setup new side
given_up_kept setup old new side id h out =
    let s = h.session in
    let limits = limits_for setup side in
    let alive : is_canceled s id ≡ false = h.follows.canceled id ∙ ap is_some out.alive in
    steps_on setup old new side h (Cancel id) (after_cancellation s id) tt (alive, refl) (record {
      encoder = h.follows.encoder ∙ sym out.encoder;
      instructions = out.instructions ∙ h.follows.instructions ∙ ap (λ k. (if k then opening s.encoder.most_capacity limits else []) ++ s.instructions) (sym out.knows);
      received = h.follows.received ∙ sym out.received;
      decoder_instructions = ap (λ l. l ++ CancelStream id ∷ []) h.follows.decoder_instructions ∙ sym out.replies;
      canceled = λ i. canceled_of i (id == i) refl;
      sections = λ i none. sections_of i none (id == i) refl;
    })
  where
    canceled_of : (i : ℕ) (t : Bool) → (id == i) ≡ t → is_canceled (after_cancellation h.session id) i ≡ is_some (flow new side i).fault
    canceled_of i true e = ap (λ b. b || is_canceled h.session i) e ∙ sym out.fault ∙ ap (λ j. is_some (flow new side j).fault) (same_id id i e)
    canceled_of i false e = ap (λ b. b || is_canceled h.session i) e ∙ h.follows.canceled i ∙ ap is_some (sym (out.faults i e))

    gone : (i : ℕ) → (id == i) ≡ true → (flow new side i).fault ≡ None → ⊥
    gone i e none = differ (sym out.fault ∙ ap (λ j. is_some (flow new side j).fault) (same_id id i e) ∙ ap is_some none)
      where
        differ : true ≡ false → ⊥
        differ h = grind (arith, common_steps, h)

    sections_of : (i : ℕ) → (flow new side i).fault ≡ None → (t : Bool) → (id == i) ≡ t
        → sections_on i (filter (λ b. not (b.stream == id)) h.session.sections) ≡ sections_left (flow new side i)
    sections_of i none true e = absurd (gone i e none)
    sections_of i none false e = not_given_up id i h.session.sections e ∙ h.follows.sections i (sym (out.faults i e) ∙ none) ∙ sym (out.sections i e)
