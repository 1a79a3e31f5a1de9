-- The session of a direction when its encoder reads decoder instructions, or learns its peer's limits.
use Rattle.std.proofs.Common.{◌≡◌, ℕ, Bool, true, false, List, [], ◌∷◌, ◌++◌, refl, sym, ap, ◌∙◌, append-nil}
use Rattle.std.specs.Prelude.{if◌then◌else◌, is_some}
use Rattle.std.specs.List.{AllByRecursion}
use Rattle.h3_field.specs.Instruction.{EncoderInstruction, DecoderInstruction}
use Rattle.h3_qpack.specs.EncoderHistory.{EncoderHistory, using_table, encoder_after_all}
use Rattle.h3_qpack.specs.Session.{Session, after_decoder_instruction}
use Rattle.h3_qpack.specs.Schedule.{SessionEvent, SessionRun, with_table}
use Rattle.h3_qpack.specs.Schedule.SessionEvent.{UseTable, DecoderInstructionRead}
use Rattle.h3_proto.specs.declared.stream.Side.{Side}
use Rattle.h3_connection.specs.OwnIds.{other}
use Rattle.h3_connection.specs.declared.setup.Limits.{Limits}
use Rattle.h3_world.specs.Setup.{Setup, has_table}
use Rattle.h3_world.specs.World.{World, party}
use Rattle.h3_world.specs.Came.{settings_came, insertions_came}
use Rattle.h3_world.specs.Streams.{flow}
use Rattle.h3_world.specs.Following.{Follows, HasSession, sections_left, replies_left, opening, limits_for}
use Rattle.h3_world.proofs.Capacity.{all_read_same}
use Rattle.h3_world.proofs.Guarding.{ChoosesNothing}
use Rattle.h3_world.proofs.Grown.{goes_on}

-- the session after its encoder read these, and has the rest to read
abbrev pub heard : Session → List DecoderInstruction → List DecoderInstruction → Session
heard s is rest = record s { encoder = encoder_after_all s.encoder is; decoder_instructions = rest }

-- one event each
abbrev pub each_read : List DecoderInstruction → List DecoderInstruction → List SessionEvent
each_read [] rest = []
each_read (i ∷ is) rest = DecoderInstructionRead i (is ++ rest) ∷ each_read is rest

pub all_read : (s : Session) (is rest : List DecoderInstruction) → s.decoder_instructions ≡ is ++ rest → SessionRun s (each_read is rest) (heard s is rest)
all_read s [] rest e = ap (λ l. record s { decoder_instructions = l }) (sym e)
all_read s (i ∷ is) rest e = (after_decoder_instruction s i (is ++ rest), (e, refl), all_read (after_decoder_instruction s i (is ++ rest)) is rest refl)

none_chosen : (is rest : List DecoderInstruction) → AllByRecursion ChoosesNothing (each_read is rest)
none_chosen [] rest = tt
none_chosen (i ∷ is) rest = (tt, none_chosen is rest)

-- What reading decoder instructions changes of what the session sees.
pub record ReadsReplies (setup : Setup) (old new : World) (side : Side) (is : List DecoderInstruction) : Type 0 where
  pub encoder : (party new side).encoder ≡ encoder_after_all (party old side).encoder is
  pub replies : replies_left setup old side ≡ is ++ replies_left setup new side
  pub instructions : (party new side).own.instructions ≡ (party old side).own.instructions
  pub knows : settings_came setup new (other side) ≡ settings_came setup old (other side)
  pub received : insertions_came (party new side) ≡ insertions_came (party old side)
  pub faults : (i : ℕ) → (flow new side i).fault ≡ (flow old side i).fault
  pub sections : (i : ℕ) → sections_left (flow new side i) ≡ sections_left (flow old side i)

pub replies_kept : (setup : Setup) (old new : World) (side : Side) (is : List DecoderInstruction) → HasSession setup old side → ReadsReplies setup old new side is → HasSession setup new side
replies_kept setup old new side is h r =
    let s = h.session in
    let rest = replies_left setup new side in
    goes_on setup old new side h (each_read is rest) (heard s is rest) (none_chosen is rest) (all_read s is rest (h.follows.decoder_instructions ∙ r.replies)) (record {
      encoder = ap (λ x. encoder_after_all x is) h.follows.encoder ∙ sym r.encoder;
      instructions =
          r.instructions ∙ h.follows.instructions ∙ ap (λ k. (if k then opening s.encoder.most_capacity (limits_for setup side) else []) ++ s.instructions) (sym r.knows)
          ∙ ap (λ m. (if settings_came setup new (other side) then opening m (limits_for setup side) else []) ++ s.instructions) (sym (all_read_same s.encoder is).most);
      received = h.follows.received ∙ sym r.received;
      decoder_instructions = refl;
      canceled = λ i. h.follows.canceled i ∙ ap is_some (sym (r.faults i));
      sections = λ i none. h.follows.sections i (sym (r.faults i) ∙ none) ∙ sym (r.sections i);
    })

-- an encoder of a peer with these limits
abbrev pub limited : EncoderHistory → Limits → EncoderHistory
limited s limits = using_table s limits.table limits.blocked

-- What settings that come change of what the session sees: the encoder learns the limits, and reads what the decoder wrote before.
pub record LearnsLimits (setup : Setup) (old new : World) (side : Side) (is : List DecoderInstruction) : Type 0 where
  pub no_limit : (party old side).encoder.limit ≡ 0
  pub empty : (party old side).encoder.inserted ≡ []
  pub nothing : (party old side).own.instructions ≡ []
  pub encoder : (party new side).encoder
      ≡ encoder_after_all (if has_table (party old side).encoder.most_capacity (limits_for setup side) then limited (party old side).encoder (limits_for setup side) else (party old side).encoder) is
  pub replies : replies_left setup old side ≡ is ++ replies_left setup new side
  pub instructions : (party new side).own.instructions ≡ opening (party old side).encoder.most_capacity (limits_for setup side)
  pub knew : settings_came setup old (other side) ≡ false
  pub knows : settings_came setup new (other side) ≡ true
  pub received : insertions_came (party new side) ≡ insertions_came (party old side)
  pub faults : (i : ℕ) → (flow new side i).fault ≡ (flow old side i).fault
  pub sections : (i : ℕ) → sections_left (flow new side i) ≡ sections_left (flow old side i)

pub learned_kept : (setup : Setup) (old new : World) (side : Side) (is : List DecoderInstruction) → HasSession setup old side → LearnsLimits setup old new side is → HasSession setup new side
learned_kept setup old new side is h l = by_test (has_table most limits) refl
  where
    most : ℕ
    most = (party old side).encoder.most_capacity

    same_most : h.session.encoder.most_capacity ≡ most
    same_most = ap (λ x. x.most_capacity) h.follows.encoder

    limits : Limits
    limits = limits_for setup side

    rest : List DecoderInstruction
    rest = replies_left setup new side

    begun : List EncoderInstruction
    begun = if settings_came setup old (other side) then opening h.session.encoder.most_capacity limits else []

    none : h.session.instructions ≡ []
    none = second_empty begun h.session.instructions (sym h.follows.instructions ∙ l.nothing)
      where
        second_empty : {X : Type 0} (xs ys : List X) → xs ++ ys ≡ [] → ys ≡ []
        second_empty [] ys e = e
        second_empty (x ∷ xs) ys e = cc

    instructions : (party new side).own.instructions ≡ (if settings_came setup new (other side) then opening most limits else []) ++ h.session.instructions
    instructions =
        l.instructions ∙ sym (ap (λ i. opening most limits ++ i) none ∙ append-nil (opening most limits))
        ∙ ap (λ k. (if k then opening most limits else []) ++ h.session.instructions) (sym l.knows)

    -- the session once the encoder has read, from one that differs in its encoder alone
    follows : (e : EncoderHistory) → e.most_capacity ≡ most → (party new side).encoder ≡ encoder_after_all e is → Follows setup new side (heard (record h.session { encoder = e }) is rest)
    follows e known is_encoder =
        record {
          encoder = sym is_encoder;
          instructions =
              instructions
              ∙ ap (λ m. (if settings_came setup new (other side) then opening m limits else []) ++ h.session.instructions) (sym ((all_read_same e is).most ∙ known));
          received = h.follows.received ∙ sym l.received;
          decoder_instructions = refl;
          canceled = λ i. h.follows.canceled i ∙ ap is_some (sym (l.faults i));
          sections = λ i alive. h.follows.sections i (sym (l.faults i) ∙ alive) ∙ sym (l.sections i);
        }

    by_test : (b : Bool) → has_table most limits ≡ b → HasSession setup new side
    by_test true e =
        let used = with_table h.session limits.table limits.blocked in
        let empty = ap (λ x. x.inserted) h.follows.encoder ∙ l.empty in
        let no_limit = ap (λ x. x.limit) h.follows.encoder ∙ l.no_limit in
        goes_on setup old new side h (UseTable limits.table limits.blocked ∷ each_read is rest) (heard used is rest) (tt, none_chosen is rest)
        (used, (empty, no_limit, refl), all_read used is rest (h.follows.decoder_instructions ∙ l.replies))
        (follows used.encoder same_most (l.encoder ∙ ap (λ b. encoder_after_all (if b then limited (party old side).encoder limits else (party old side).encoder) is) e
        ∙ ap (λ x. encoder_after_all (limited x limits) is) (sym h.follows.encoder)))
    by_test false e =
        goes_on setup old new side h (each_read is rest) (heard h.session is rest) (none_chosen is rest) (all_read h.session is rest (h.follows.decoder_instructions ∙ l.replies))
        (follows h.session.encoder same_most (l.encoder ∙ ap (λ b. encoder_after_all (if b then limited (party old side).encoder limits else (party old side).encoder) is) e
        ∙ ap (λ x. encoder_after_all x is) (sym h.follows.encoder)))
