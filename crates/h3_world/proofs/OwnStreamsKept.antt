-- A world stays sound when a request is opened, a side announces that it goes away, or more of an own stream comes.
use Rattle.std.proofs.Common.{◌≡◌, ℕ, ◌-◌, ◌≤◌, Bool, true, false, not, ◌&&◌, List, [], ◌∷◌, ◌++◌, length, min, refl, sym, ap, ◌∙◌, subst, arith, append-nil, nat_le, if◌then◌else◌}
use Rattle.std.specs.List.{AllByRecursion, sum_by}
use Rattle.std.specs.Prelude.{drop}
use Rattle.std.proofs.lemmas.Grind.{common_steps}
use Rattle.std.proofs.lemmas.List.Sums.{sum_by-cons, sum_by-append}
use Rattle.h3_field.specs.Instruction.{DecoderInstruction}
use Rattle.h3_field.specs.Instruction.EncoderInstruction.{SetCapacity}
use Rattle.h3_proto.specs.declared.stream.Side.{Side}
use Rattle.h3_proto.specs.declared.stream.Side.TheVariants.{Client, Server}
use Rattle.h3_connection.specs.Control.{increment}
use Rattle.h3_connection.specs.OwnIds.{other}
use Rattle.h3_connection.specs.declared.setup.Limits.{Limits}
use Rattle.h3_world.specs.Setup.{Setup, announced_at, has_table}
use Rattle.h3_world.specs.World.{World, Party, no_exchange, party}
use Rattle.h3_world.specs.OwnStreams.{settings_bytes}
use Rattle.h3_world.specs.Came.{settings_came, insertions_came, replies_read}
use Rattle.h3_world.specs.Sending.{opened, with_goaway}
use Rattle.h3_world.specs.Delivering.{further, having_learned, delivered_own}
use Rattle.h3_world.specs.Following.{HasSession, limits_for}
use Rattle.h3_world.specs.Sound.{IsSoundExchange, IsSoundWriter, IsSoundWorld, sections_above}
use Rattle.h3_world.proofs.QpackLaws.{QpackLaws}
use Rattle.h3_world.proofs.Capacity.{all_read_same}
use Rattle.h3_world.proofs.Flows.{party-with_party, other-other}
use Rattle.h3_world.proofs.SameSession.{knows_of}
use Rattle.h3_world.proofs.Sends.{HasWritten}
use Rattle.h3_world.proofs.SoundFlows.{no_exchange_sound, all_weaker}
use Rattle.h3_world.proofs.Opened.{opened_kept, goaway_kept}
use Rattle.h3_world.proofs.Listened.{between_of, writer_after, reader_after, IsFurther, further_is, learned_is, listens, tabled, written_direction_kept, read_direction_kept}
use Rattle.h3_world.proofs.Learned.{learning_direction_kept}
use Rattle.h3_world.proofs.Writers.{own_waits, writer_as, writer_further, writer_goaway, writer_learned, writer_listens}
use Rattle.h3_world.proofs.Exchanges.{WriteOn, exchanges_stay, counts_stay}
use Rattle.h3_world.proofs.WorldUpdates.{party_of, both_sides}

all_and : {X : Type 0} (P : X → Type 0) (xs : List X) (x : X) → AllByRecursion P xs → P x → AllByRecursion P (xs ++ x ∷ [])
all_and P [] x all new = (new, tt)
all_and P (y ∷ ys) x all new = (all.0, all_and P ys x all.1 new)

opened_sum : (w : World) (side : Side) (most : ℕ) → sum_by (sections_above side most) (opened w).exchanges ≡ sum_by (sections_above side most) w.exchanges
opened_sum w Client most = omega (arith, sum_by-append (sections_above Client most) w.exchanges (no_exchange ∷ []), sum_by-cons (sections_above Client most) no_exchange [])
opened_sum w Server most = omega (arith, sum_by-append (sections_above Server most) w.exchanges (no_exchange ∷ []), sum_by-cons (sections_above Server most) no_exchange [])

pub opened_sound : (setup : Setup) (w : World) → IsSoundWorld setup w → IsSoundWorld setup (opened w)
opened_sound setup w h =
    record {
      client = record { writer = h.client.writer; counts = counts_stay w (opened w) Client refl (opened_sum w Client) h.client.counts; session = opened_kept setup w Client h.client.session };
      server = record { writer = h.server.writer; counts = counts_stay w (opened w) Server refl (opened_sum w Server) h.server.counts; session = opened_kept setup w Server h.server.session };
      exchanges = all_and (IsSoundExchange (opened w)) w.exchanges no_exchange
          (all_weaker (IsSoundExchange w) (IsSoundExchange (opened w)) (λ x e. record { request = e.request; response = e.response; unsent = e.unsent; unread = e.unread }) w.exchanges h.exchanges)
          (no_exchange_sound (opened w));
    }

same_instructions : (p q : Party) → q.own.instructions ≡ p.own.instructions → HasWritten p q
same_instructions p q e = record { more = []; is = e ∙ sym (append-nil p.own.instructions) }

pub goaway_sound : (setup : Setup) (w : World) (side : Side) (id : ℕ) → IsSoundWorld setup w → IsSoundWorld setup (with_goaway w side id)
goaway_sound setup w Client id h =
    let new = with_goaway w Client id in
    record {
      client = record { writer = writer_goaway setup Client w.client (settings_came setup w Server) id h.client.writer; counts = h.client.counts; session = goaway_kept setup w Client Client id h.client.session };
      server = record { writer = h.server.writer; counts = h.server.counts; session = goaway_kept setup w Server Client id h.server.session };
      exchanges = exchanges_stay w new (record { client = same_instructions w.client new.client refl; server = same_instructions w.server w.server refl; exchanges = refl }) h.exchanges;
    }
goaway_sound setup w Server id h =
    let new = with_goaway w Server id in
    record {
      client = record { writer = h.client.writer; counts = h.client.counts; session = goaway_kept setup w Client Server id h.client.session };
      server = record { writer = writer_goaway setup Server w.server (settings_came setup w Client) id h.server.writer; counts = h.server.counts; session = goaway_kept setup w Server Server id h.server.session };
      exchanges = exchanges_stay w new (record { client = same_instructions w.client w.client refl; server = same_instructions w.server new.server refl; exchanges = refl }) h.exchanges;
    }

-- what learning limits leaves of a side
learned_counts : (p : Party) (limits : Limits) → (having_learned p limits).encoder.required_insert_counts ≡ p.encoder.required_insert_counts
learned_counts p limits = by_test (has_table p.encoder.most_capacity limits)
  where
    by_test : (b : Bool) → (if b then tabled p limits else p).encoder.required_insert_counts ≡ p.encoder.required_insert_counts
    by_test true = refl
    by_test false = refl

learned_written : (p : Party) (limits : Limits) → HasWritten p (having_learned p limits)
learned_written p limits = by_test (has_table p.encoder.most_capacity limits)
  where
    by_test : (b : Bool) → HasWritten p (if b then tabled p limits else p)
    by_test true = record { more = SetCapacity (min p.encoder.most_capacity limits.table) ∷ []; is = refl }
    by_test false = same_instructions p p refl

if_learned : (p : Party) (limits : Limits) (b : Bool) → HasWritten p (if b then having_learned p limits else p)
if_learned p limits true = learned_written p limits
if_learned p limits false = same_instructions p p refl

if_counts : (p : Party) (limits : Limits) (b : Bool) → (if b then having_learned p limits else p).encoder.required_insert_counts ≡ p.encoder.required_insert_counts
if_counts p limits true = learned_counts p limits
if_counts p limits false = refl

as_party : (p q r : Party) → r ≡ q → HasWritten p q → HasWritten p r
as_party p q r e h = subst (λ x. HasWritten p x) (sym e) h

sides_write : (w v : World) (side : Side) → HasWritten (party w side) (party v side) → HasWritten (party w (other side)) (party v (other side)) → v.exchanges ≡ w.exchanges → WriteOn w v
sides_write w v Client own others same = record { client = own; server = others; exchanges = same }
sides_write w v Server own others same = record { client = others; server = own; exchanges = same }

pub own_exchanges : (setup : Setup) (w : World) (writer : Side) (id count : ℕ) → (delivered_own setup w writer id count).exchanges ≡ w.exchanges
own_exchanges setup w Client id count = refl
own_exchanges setup w Server id count = refl

more_known : (n a b : ℕ) → a ≤ b → nat_le n a ≡ true → nat_le n b ≡ true
more_known n a b le e = grind (arith, common_steps, le, e)

differ : true ≡ false → ⊥
differ e = grind (arith, common_steps, e)

-- More of an own stream comes, of the bytes that wait.
pub own_sound : QpackLaws → (setup : Setup) (w : World) (writer : Side) (id count : ℕ) → count ≤ own_waits setup writer (party w writer) id → IsSoundWorld setup w
    → IsSoundWorld setup (delivered_own setup w writer id count)
own_sound laws setup w writer id count fits h =
    both_sides setup final writer
    (record {
      writer = writer_as setup writer pf (party final writer) (settings_came setup w (other writer)) (settings_came setup final (other writer)) at_writer reader_knows
          (writer_further setup writer own (settings_came setup w (other writer)) (settings_came setup w (other writer)) id count fits refl (party_of setup w writer h).writer);
      counts = counts_stay w final writer (ap (λ x. x.encoder.required_insert_counts) at_writer ∙ ap (λ e. e.required_insert_counts) f.encoder)
          (λ most. ap (sum_by (sections_above writer most)) same) (party_of setup w writer h).counts;
      session = written_direction_kept laws.sound setup w writer id count (party_of setup w (other writer) h).writer.decoder (party_of setup w writer h).session;
    })
    (record {
      writer = writer_as setup (other writer) (listens q is more) (party final (other writer)) knows (settings_came setup final (other (other writer))) at_reader writer_knows
          (reads knew knows refl refl);
      counts = counts_stay w final (other writer)
          (ap (λ x. x.encoder.required_insert_counts) at_reader ∙ (all_read_same q.encoder is).counts ∙ if_counts p limits learns)
          (λ most. ap (sum_by (sections_above (other writer) most)) same) (party_of setup w (other writer) h).counts;
      session = read_session knew knows refl refl;
    })
    (exchanges_stay w final (sides_write w final writer (as_party own pf (party final writer) at_writer (same_instructions own pf f.written))
    (as_party p (listens q is more) (party final (other writer)) at_reader (listened_written learns)) same) h.exchanges)
  where
    new : World
    new = between_of w writer id count

    final : World
    final = delivered_own setup w writer id count

    own : Party
    own = party w writer

    p : Party
    p = party w (other writer)

    pf : Party
    pf = further own writer id count

    f : IsFurther own pf
    f = further_is own writer id count

    limits : Limits
    limits = (announced_at setup writer).limits

    knew : Bool
    knew = settings_came setup w writer

    knows : Bool
    knows = settings_came setup new writer

    learns : Bool
    learns = not knew && knows

    q : Party
    q = if learns then having_learned p limits else p

    is : List DecoderInstruction
    is = drop (length (replies_read setup w writer)) (replies_read setup new writer)

    more : List DecoderInstruction
    more = increment (insertions_came (party new writer) - insertions_came own)

    at_writer : party final writer ≡ pf
    at_writer = writer_after setup w writer id count

    at_reader : party final (other writer) ≡ listens q is more
    at_reader = reader_after setup w writer id count

    same : final.exchanges ≡ w.exchanges
    same = own_exchanges setup w writer id count

    -- what each side knows of the other
    reader_knows : settings_came setup final (other writer) ≡ settings_came setup w (other writer)
    reader_knows =
        ap (knows_of setup (other writer)) at_reader
        ∙ ap (λ n. nat_le (length (settings_bytes (announced_at setup (other writer)))) n) (learned_is p limits learns).control

    writer_knows : settings_came setup final (other (other writer)) ≡ knows
    writer_knows =
        ap (λ s. settings_came setup final s) (other-other writer) ∙ ap (knows_of setup writer) (at_writer ∙ sym (party-with_party w writer pf))

    knows_on : knew ≡ true → knows ≡ true
    knows_on e =
        ap (knows_of setup writer) (party-with_party w writer pf) ∙ more_known (length (settings_bytes (announced_at setup writer))) own.own.control_taken pf.own.control_taken f.decodes.control e

    knew_is : settings_came setup w (other (other writer)) ≡ knew
    knew_is = ap (λ s. settings_came setup w s) (other-other writer)

    was : (b : Bool) → knew ≡ b → IsSoundWriter setup (other writer) p b
    was b e = writer_as setup (other writer) p p (settings_came setup w (other (other writer))) b refl (sym e ∙ sym knew_is) (party_of setup w (other writer) h).writer

    listened_written : (b : Bool) → HasWritten p (listens (if b then having_learned p limits else p) is more)
    listened_written b =
        let l = if_learned p limits b in
        record { more = l.more; is = l.is }

    limits_are : limits ≡ limits_for setup (other writer)
    limits_are = ap (λ s. (announced_at setup s).limits) (sym (other-other writer))

    reads : (a b : Bool) → knew ≡ a → knows ≡ b → IsSoundWriter setup (other writer) (listens q is more) knows
    reads true b e k =
        subst (λ t. IsSoundWriter setup (other writer) (listens (if t then having_learned p limits else p) is more) knows) (sym (ap (λ t. not t && knows) e))
        (writer_listens setup (other writer) p true knows is more (λ n. absurd (differ (sym (knows_on e) ∙ n))) (was true e))
    reads false false e k =
        subst (λ t. IsSoundWriter setup (other writer) (listens (if t then having_learned p limits else p) is more) knows) (sym (ap (λ t. not t && knows) e ∙ k))
        (writer_listens setup (other writer) p false knows is more (λ n. refl) (was false e))
    reads false true e k =
        subst (λ t. IsSoundWriter setup (other writer) (listens (if t then having_learned p limits else p) is more) knows) (sym (ap (λ t. not t && knows) e ∙ k))
        (writer_listens setup (other writer) (having_learned p limits) true knows is more (λ n. absurd (differ (sym k ∙ n)))
        (writer_learned setup (other writer) p limits limits_are (was false e)))

    read_session : (a b : Bool) → knew ≡ a → knows ≡ b → HasSession setup final (other writer)
    read_session true b e k = read_direction_kept setup w writer id count (knows_on e ∙ sym e) (party_of setup w (other writer) h).session
    read_session false false e k = read_direction_kept setup w writer id count (k ∙ sym e) (party_of setup w (other writer) h).session
    read_session false true e k =
        let u = (was false e).unknown refl in
        learning_direction_kept setup w writer id count
        (record { unknown = e; knows = k; no_limit = u.0.0; empty = u.1; nothing = u.2; came = (party_of setup w (other writer) h).writer.encoder })
        (party_of setup w (other writer) h).session
