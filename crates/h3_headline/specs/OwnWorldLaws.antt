-- The parties of a world in which an own stream of one side got further.
use Rattle.std.proofs.Common.{◌≡◌, ℕ, refl, ◌-◌, ◌∙◌, ◌+◌, true, List, [], ◌++◌, append-nil, sym, ap, Bool, false, if◌then◌else◌, ◌∷◌, min, not, ◌&&◌, length, drop, arith}
use Rattle.h3_proto.specs.declared.stream.Side.{Side}
use Rattle.h3_proto.specs.declared.stream.Side.TheVariants.{Client, Server}
use Rattle.h3_connection.specs.OwnIds.{other, control_id, encoder_id, decoder_id}
use Rattle.h3_world.specs.Delivering.{delivered_own, further, having_listened, having_learned}
use Rattle.h3_world.specs.World.{World, party, with_party, Party}
use Rattle.h3_connection.specs.Endpoint.{Own, EndpointHistory}
use Rattle.h3_connection.specs.Sending.{own_advanced}
use Rattle.h3_field.specs.Instruction.{DecoderInstruction}
use Rattle.h3_connection.specs.Control.{increment}
use Rattle.h3_field.specs.Instruction.EncoderInstruction.{SetCapacity}
use Rattle.h3_qpack.specs.EncoderHistory.{using_table, encoder_after_all}
use Rattle.h3_connection.specs.declared.setup.Limits.{Limits}
use Rattle.h3_world.specs.Setup.{Setup, has_table}
use Rattle.h3_qpack.specs.WholeInstructions.{decoder_instructions_in}
use Rattle.h3_headline.specs.Arriving.{saying}
use Rattle.h3_headline.specs.FlowLaws.{flow-with_party, is_open-with_party}
use Rattle.h3_headline.specs.OwnStreams.{SameStreams, Writes, further_own, listened, listened_to, party_from, party_of, read_by}
use Rattle.h3_headline.specs.PeerStreams.{after_control, encoder_then, learned_encoder, learned_own}

pub writer_after : (setup : Setup) (w : World) (side : Side) (id count : ℕ) → party (delivered_own setup w (other side) id count) (other side) ≡ record (party w (other side)) { own = further_own w side id count }
writer_after setup w Client id count = refl
writer_after setup w Server id count = refl

pub reader_after : (setup : Setup) (w : World) (side : Side) (id count : ℕ) → party (delivered_own setup w (other side) id count) side ≡ listened_to setup (other side) (party w side) (party w (other side)).own (further_own w side id count)
reader_after setup w Client id count = refl
reader_after setup w Server id count = refl

pub streams_after : (setup : Setup) (w : World) (writer : Side) (id count : ℕ) → SameStreams w (delivered_own setup w writer id count)
streams_after setup w writer id count =
    let p = further (party w writer) writer id count in
    let between = with_party w writer p in
    let q = having_listened setup w between writer in
    record {
      flows = λ s i. flow-with_party between (other writer) s q i ∙ flow-with_party w writer s p i;
      opens = λ s i. is_open-with_party between (other writer) s q i ∙ is_open-with_party w writer s p i;
    }

-- each stream by its id
pub advanced_control : (own : Own) (side : Side) (count : ℕ) → own_advanced own side (control_id side) count ≡ record own { control_taken = own.control_taken + count }
advanced_control own Client count = refl
advanced_control own Server count = refl

pub advanced_encoder : (own : Own) (side : Side) (count : ℕ) → own_advanced own side (encoder_id side) count ≡ record own { encoder_taken = own.encoder_taken + count }
advanced_encoder own Client count = refl
advanced_encoder own Server count = refl

pub advanced_decoder : (own : Own) (side : Side) (count : ℕ) → own_advanced own side (decoder_id side) count ≡ record own { decoder_taken = own.decoder_taken + count }
advanced_decoder own Client count = refl
advanced_decoder own Server count = refl

nothing_written : (p : Party) (more : ℕ) (is : List DecoderInstruction) → Writes p.own (listened true true (record { table = 0; blocked = 0 }) p more is).own more
nothing_written p more is = record { instructions = []; is = ap (λ l. record p.own { instructions = l; replies = p.own.replies ++ increment more }) (sym (append-nil p.own.instructions)) }

writes_by : (learns : Bool) (limits : Limits) (p : Party) (more : ℕ)
    → Writes p.own (record (if learns then having_learned p limits else p).own { replies = (if learns then having_learned p limits else p).own.replies ++ increment more }) more
writes_by false limits p more = nothing_written p more []
writes_by true limits p more = by_table (has_table p.encoder.most_capacity limits)
  where
    by_table : (b : Bool)
        → Writes p.own (record (if b then record { own = record p.own { instructions = p.own.instructions ++ SetCapacity (min p.encoder.most_capacity limits.table) ∷ [] }; encoder = using_table p.encoder limits.table limits.blocked } else p).own {
          replies = (if b then record { own = record p.own { instructions = p.own.instructions ++ SetCapacity (min p.encoder.most_capacity limits.table) ∷ [] }; encoder = using_table p.encoder limits.table limits.blocked } else p).own.replies ++ increment more;
        }) more
    by_table true = record { instructions = SetCapacity (min p.encoder.most_capacity limits.table) ∷ []; is = refl }
    by_table false = nothing_written p more []

pub listened_writes : (knew knows : Bool) (limits : Limits) (p : Party) (more : ℕ) (is : List DecoderInstruction) → Writes p.own (listened knew knows limits p more is).own more
listened_writes knew knows limits p more is = writes_by (not knew && knows) limits p more

none_after : {X : Type 0} (xs : List X) → drop (length xs) xs ≡ []
none_after [] = refl
none_after (x ∷ xs) = none_after xs

no_increment : (n : ℕ) → increment (n - n) ≡ []
no_increment n = let none : n - n ≡ 0 = omega arith in ap increment none

-- where nothing is learned
plain : (b : Bool) (limits : Limits) (p : Party) → (if not b && b then having_learned p limits else p) ≡ p
plain true limits p = refl
plain false limits p = refl

-- insertions come
pub insertions_listened : (b : Bool) (limits : Limits) (p : Party) (more : ℕ) (is : List DecoderInstruction) → listened b b limits p more (drop (length is) is) ≡ record p { own = saying p.own (increment more) }
insertions_listened b limits p more is = ap (λ q. party_from q more (drop (length is) is)) (plain b limits p) ∙ ap (λ l. party_from p more l) (none_after is)

-- replies come
pub replies_listened : (b : Bool) (limits : Limits) (p : Party) (n few many : ℕ) (replies : List DecoderInstruction)
    → listened b b limits p (n - n) (drop (length (if b then decoder_instructions_in few replies else [])) (if b then decoder_instructions_in many replies else [])) ≡ record p { encoder = encoder_then b p.encoder few many replies }
replies_listened b limits p n few many replies =
    let is = drop (length (if b then decoder_instructions_in few replies else [])) (if b then decoder_instructions_in many replies else []) in
    ap (λ q. party_from q (n - n) is) (plain b limits p)
    ∙ ap (λ l. record p { own = record p.own { replies = l }; encoder = encoder_after_all p.encoder is }) (ap (λ l. p.own.replies ++ l) (no_increment n) ∙ append-nil p.own.replies)
    ∙ ap (λ e. record p { encoder = e }) (by_known b)
  where
    by_known : (b : Bool) → encoder_after_all p.encoder (drop (length (if b then decoder_instructions_in few replies else [])) (if b then decoder_instructions_in many replies else [])) ≡ encoder_then b p.encoder few many replies
    by_known true = refl
    by_known false = refl

-- settings come
learned_is : (limits : Limits) (p : Party) → having_learned p limits ≡ record { own = learned_own p.encoder.most_capacity limits p.own; encoder = learned_encoder limits p.encoder }
learned_is limits p = by_table (has_table p.encoder.most_capacity limits)
  where
    by_table : (b : Bool) → (if b then record { own = record p.own { instructions = p.own.instructions ++ SetCapacity (min p.encoder.most_capacity limits.table) ∷ [] }; encoder = using_table p.encoder limits.table limits.blocked } else p)
        ≡ record {
          own = if b then record p.own { instructions = p.own.instructions ++ SetCapacity (min p.encoder.most_capacity limits.table) ∷ [] } else p.own;
          encoder = if b then using_table p.encoder limits.table limits.blocked else p.encoder;
        }
    by_table true = refl
    by_table false = refl

nothing_more : (q : Party) (n : ℕ) (is : List DecoderInstruction) → party_from q (n - n) is ≡ record q { encoder = encoder_after_all q.encoder is }
nothing_more q n is = ap (λ l. record q { own = record q.own { replies = l }; encoder = encoder_after_all q.encoder is }) (ap (λ l. q.own.replies ++ l) (no_increment n) ∙ append-nil q.own.replies)

pub settings_listened : (b c : Bool) (limits : Limits) (p : Party) (e : EndpointHistory) (n came : ℕ) (replies : List DecoderInstruction) → (b ≡ true → c ≡ true) → p ≡ party_of e
    → party_of (after_control b c e limits came replies) ≡ listened b c limits p (n - n) (drop (length (read_by b came replies)) (read_by c came replies))
settings_listened true false limits p e n came replies order is = let t = order refl in absurd (cc)
settings_listened true true limits p e n came replies order is =
    let read = decoder_instructions_in (came - 1) replies in
    sym is ∙ sym (nothing_more p n (drop (length read) read) ∙ ap (λ l. record p { encoder = encoder_after_all p.encoder l }) (none_after read))
settings_listened false false limits p e n came replies order is = sym is ∙ sym (nothing_more p n [])
settings_listened false true limits p e n came replies order is =
    let read = decoder_instructions_in (came - 1) replies in
    ap (λ (q : Party). record { own = learned_own q.encoder.most_capacity limits q.own; encoder = encoder_after_all (learned_encoder limits q.encoder) read }) (sym is)
    ∙ sym (nothing_more (having_learned p limits) n read ∙ ap (λ (q : Party). record q { encoder = encoder_after_all q.encoder read }) (learned_is limits p))
