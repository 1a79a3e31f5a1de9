-- What came of an encoder's stream is read as its instructions, and none is refused.
use Rattle.std.proofs.Common.{ℕ, zero, suc, [], take, refl, ◌≡◌, ◌≤◌, Some, arith, min, inl, inr, ◌-◌, length, sym, ap, ◌∙◌, subst, true, if◌then◌else◌, ◌++◌, Bool, false, List, ◌∷◌, drop, flat_map}
use Rattle.h3_qpack.specs.DecoderState.{DecoderState, decoder_after_all}
use Rattle.h3_qpack.specs.TableHistory.{IsReadAs, table_after_all, table_of}
use Rattle.std.proofs.lemmas.Grind.{common_steps}
use Rattle.std.proofs.lemmas.List.{nil_from_length}
use Rattle.h3_qpack.specs.Session.{Session}
use Rattle.h3_world.specs.Following.{HasCapacity, HasSession, opening, limits_for}
use Rattle.h3_qpack.specs.Exchange as exchange
use Rattle.h3_proto.specs.declared.stream.Side.{Side}
use Rattle.h3_connection.specs.Endpoint.{first_decoder}
use Rattle.h3_connection.specs.OwnIds.{other}
use Rattle.h3_connection.specs.StrictConnection.{is_strict}
use Rattle.h3_connection.specs.declared.setup.Announced.{Announced}
use Rattle.h3_world.specs.Came.{settings_came}
use Rattle.h3_world.specs.Setup.{IsMadeSetup, Setup, announced_at}
use Rattle.h3_world.specs.World.{World, party}
use Rattle.h3_world.specs.Sound.{IsSoundParty}
use Rattle.std.specs.List.{AllByRecursion}
use Rattle.h3_field.specs.Instruction.{EncoderInstruction, encoder_bytes}
use Rattle.h3_qpack.specs.Encodings.{IsWrittenInstruction}
use Rattle.h3_qpack.specs.Hearing.{heard, hear}
use Rattle.h3_qpack.specs.WholeInstructions.{whole_in, rest_in}
use Rattle.h3_headline.specs.AcceptedLaws.{decoder_after_append}
use Rattle.h3_headline.specs.AnnouncedLaws.{announces_at}
use Rattle.h3_headline.specs.Cited.{IsRead, StreamLaws}
use Rattle.h3_headline.specs.UnitLaws.{goes_on}

nothing_read : (first : DecoderState) (k : ℕ) → IsRead first (take k [])
nothing_read first zero = record { decoder = first; reads = refl }
nothing_read first (suc k) = record { decoder = first; reads = refl }

none_read_as : (announced capacity : ℕ) → IsReadAs announced capacity [] []
none_read_as announced capacity = record { one_each = refl; tables = tables }
  where
    tables : (k : ℕ) → k ≤ 0 → table_after_all announced (Some (table_of capacity [])) (take k []) ≡ Some (table_of capacity (take k []))
    tables zero h = refl
    tables (suc k) h = absurd (omega (arith, h))

pub least_right : (a b : ℕ) → min a b ≤ b
least_right a b = grind (arith, common_steps)

-- the instructions of the session, by the announced capacity and the one that is used
pub read_as : (announced : ℕ) (s : Session) → HasCapacity announced s.encoder → IsReadAs s.encoder.announced s.encoder.capacity s.instructions s.encoder.inserted
    → IsReadAs announced (min s.encoder.most_capacity announced) s.instructions s.encoder.inserted
read_as announced s (inl is) h =
    subst (λ c. IsReadAs announced c s.instructions s.encoder.inserted) is.1 (subst (λ a. IsReadAs a s.encoder.capacity s.instructions s.encoder.inserted) is.0 h)
read_as announced s (inr none) h =
    let capacity = min s.encoder.most_capacity announced in
    let fields : s.encoder.inserted ≡ [] = none.1 in
    let one : length s.instructions ≡ length s.encoder.inserted = h.one_each in
    let instructions : s.instructions ≡ [] = nil_from_length s.instructions (one ∙ ap length fields) in
    subst (λ is. IsReadAs announced capacity is s.encoder.inserted) (sym instructions) (subst (λ fs. IsReadAs announced capacity [] fs) (sym fields) (none_read_as announced capacity))

-- once a side knows the other side's settings: what it wrote is how its stream begins, and the instructions of its session
pub opened_instructions : (setup : Setup) (w : World) (writer : Side) → IsMadeSetup setup → (h : HasSession setup w writer) → settings_came setup w (other writer) ≡ true
    → (party w writer).own.instructions ≡ exchange.opening (min h.session.encoder.most_capacity (announced_at setup (other writer)).limits.table) ++ h.session.instructions
opened_instructions setup w writer made h e =
    h.follows.instructions ∙ ap (λ b. (if b then opening h.session.encoder.most_capacity (limits_for setup writer) else []) ++ h.session.instructions) e
    ∙ ap (λ is. is ++ h.session.instructions) ((announces_at setup (other writer) made).opening h.session.encoder.most_capacity)

-- The other side's decoder reads any front of the side's instructions.
pub instructions_read : (laws : StreamLaws) (setup : Setup) (w : World) (writer : Side) (k : ℕ) → IsMadeSetup setup → IsSoundParty setup w writer → k ≤ length (party w writer).own.instructions
    → IsRead (first_decoder (announced_at setup (other writer))) (take k (party w writer).own.instructions)
instructions_read laws setup w writer k made sound within = by_known (settings_came setup w (other writer)) refl
  where
    own : Announced
    own = announced_at setup (other writer)

    capacity : ℕ
    capacity = own.limits.table

    by_known : (b : Bool) → settings_came setup w (other writer) ≡ b → IsRead (first_decoder own) (take k (party w writer).own.instructions)
    by_known true e =
        let h = sound.session in
        let s = h.session in
        let reads = read_as capacity s (subst (HasCapacity capacity) (sym h.follows.encoder) sound.writer.capacity) (laws.sound h.counts h.most 0 0 h.events s h.run).read in
        let all = opened_instructions setup w writer made h e in
        let front = laws.tables_read (is_strict own) capacity (min s.encoder.most_capacity capacity) s.instructions s.encoder.inserted k (least_right s.encoder.most_capacity capacity) reads (subst (λ is. k ≤ length is) all within) in
        subst (λ is. IsRead (first_decoder own) (take k is)) (sym all) (record { decoder = front.0; reads = front.1 })
    by_known false e = subst (λ is. IsRead (first_decoder own) (take k is)) (sym (sound.writer.unknown e).2) (nothing_read (first_decoder own) k)

pub all_dropped : {X : Type 0} (P : X → Type 0) (k : ℕ) (xs : List X) → AllByRecursion P xs → AllByRecursion P (drop k xs)
all_dropped P zero xs h = h
all_dropped P (suc k) [] h = tt
all_dropped P (suc k) (x ∷ xs) h = all_dropped P k xs h.1

-- What was left and what comes is read as the instructions that are now whole.
pub heard_on : (laws : StreamLaws) (first : DecoderState) (is : List EncoderInstruction) (few many : ℕ) (before : DecoderState) → few ≤ many → AllByRecursion IsWrittenInstruction is
    → decoder_after_all (Some first) (take (whole_in encoder_bytes few is) is) ≡ Some before → (after : IsRead first (take (whole_in encoder_bytes many is) is))
    → hear before (rest_in encoder_bytes few is ++ take (many - few) (drop few (flat_map encoder_bytes is))) ≡ heard after.decoder (rest_in encoder_bytes many is) false
heard_on laws first is few many before h written was after =
    let g = goes_on encoder_bytes few many is h in
    let rest = drop (whole_in encoder_bytes few is) is in
    let reads : decoder_after_all (Some before) (take (whole_in encoder_bytes g.count rest) rest) ≡ Some after.decoder =
    ap (λ o. decoder_after_all o (take (whole_in encoder_bytes g.count rest) rest)) (sym was)
    ∙ sym (decoder_after_append (Some first) (take (whole_in encoder_bytes few is) is) (take (whole_in encoder_bytes g.count rest) rest))
    ∙ ap (decoder_after_all (Some first)) (sym g.whole) ∙ after.reads in
    ap (hear before) g.bytes
    ∙ laws.heard_fronts before after.decoder rest g.count (all_dropped IsWrittenInstruction (whole_in encoder_bytes few is) is written) reads
    ∙ ap (λ l. heard after.decoder l false) (sym g.rest)
