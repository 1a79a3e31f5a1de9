-- What an endpoint makes of further bytes of the other side's control stream: once the settings came, it uses the table where they
-- allow it, and reads what the other side's decoder said before.
use Rattle.std.proofs.Common.{◌≡◌, ◌+◌, Bool, true, false, if◌then◌else◌, [], ◌∷◌, ◌++◌, min, refl, ap, ◌∙◌, ℕ, ◌-◌, List, drop, sym, subst, take, flat_map, append-nil, Option, Some, None, nat_le, length, ◌<◌, arith, ◌≤◌}
use Rattle.std.specs.Prelude.{unwrap_or, is_none, is_some, ◌==◌, ◌&&◌}
use Rattle.h3_field.specs.Instruction.EncoderInstruction.{SetCapacity}
use Rattle.h3_proto.specs.Settings.{value_of}
use Rattle.h3_qpack.specs.EncoderHistory.{using_table, EncoderHistory, encoder_after_all}
use Rattle.h3_connection.specs.Control.{are_refused, holding, lacks_settings, with_table, learned, read_decoder, taken_peer, read_control}
use Rattle.h3_connection.specs.LimitedReading.{listened_whole}
use Rattle.h3_connection.specs.UnlimitedLaws.{decoder_unlimited}
use Rattle.h3_connection.specs.Endpoint.{EndpointHistory, limit_of, goaway_encoding, is_second}
use Rattle.h3_connection.specs.declared.setup.Announced.{Announced}
use Rattle.h3_world.specs.Setup.{Setup, TakesAnyLength, has_table, announced_at}
use Rattle.std.proofs.lemmas.List.{take-append-drop}
use Rattle.h3_field.specs.Instruction.{DecoderInstruction, decoder_bytes}
use Rattle.h3_qpack.specs.Instructions.{AreAccepted}
use Rattle.h3_qpack.specs.WholeInstructions.{whole_in, decoder_instructions_in, rest_in}
use Rattle.h3_connection.specs.declared.setup.Limits.{Limits}
use Rattle.std.specs.List.{AllByRecursion}
use Rattle.h3_field.specs.InstructionAnswer.{IsReply}
use Rattle.h3_qpack.specs.Hearing.{listened, listen}
use Rattle.h3_proto.specs.declared.stream.Side.{Side}
use Rattle.h3_connection.specs.OwnIds.{other, control_id}
use Rattle.std.proofs.lemmas.Bool.{and_right}
use Rattle.h3_frames.specs.FirstFrames.{begins_other}
use Rattle.h3_connection.specs.StrictConnection.{is_strict, settings_refused, kinds_of}
use Rattle.h3_connection.specs.StrictConnectionLaws.{held_taken, known_missed}
use Rattle.h3_connection.specs.PeerReading.{Peer, PeerFound, with_unread, read_peer}
use Rattle.h3_connection.specs.Unidirectional.{Unidirectional}
use Rattle.h3_world.specs.OwnStreams.{settings_bytes}
use Rattle.std.proofs.lemmas.Grind.{common_steps}
use Rattle.h3_connection.specs.Delivering.{heard_as, unless_second, with_unidirectional}
use Rattle.h3_connection.specs.Unidirectional.Role.{Untold, Control}
use Rattle.h3_headline.specs.AcceptedLaws.{accepted_front, accepted_limited}
use Rattle.h3_headline.specs.Cited.{StreamLaws}
use Rattle.h3_headline.specs.ControlLaws.{length_settings, nothing_else_first, peer_came}
use Rattle.h3_headline.specs.ControlStreamLaws.{without_limit}
use Rattle.h3_headline.specs.FlowLaws.{other-other}
use Rattle.h3_headline.specs.ListeningLaws.{no_sum, no_sum_too}
use Rattle.h3_headline.specs.PeerStreams.{Announces, MayListen, after_control, behind_type, controlling, knowing, learned_encoder, limited_by, no_limit, peer_by, peer_of, role_by, settings_frame_of, settled, with_role, without_fault}
use Rattle.h3_headline.specs.RoleLaws.{is_first}
use Rattle.h3_headline.specs.Standing.{HasControl, came_on, replies_unread, with_meaning, most_kept}

knows_limits : (e : EndpointHistory) (a : Announced) → Announces a → learned e (with_meaning a.settings) ≡ knowing e a.limits
knows_limits e a h =
    ap (λ n. limited_by e n (unwrap_or (value_of 7 (with_meaning a.settings)) 0)) h.table ∙ ap (λ n. limited_by e a.limits.table n) h.blocked ∙ by_test (has_table e.encoder.most_capacity a.limits)
  where
    by_test : (b : Bool) → (if b then with_table e a.limits.table a.limits.blocked else e)
        ≡ record e {
          encoder = if b then using_table e.encoder a.limits.table a.limits.blocked else e.encoder;
          own = if b then record e.own { instructions = e.own.instructions ++ SetCapacity (min e.encoder.most_capacity a.limits.table) ∷ [] } else e.own;
        }
    by_test true = refl
    by_test false = refl

learned_accepted : (s : EncoderHistory) (limits : Limits) (n : ℕ) (replies : List DecoderInstruction) → AreAccepted s replies → AreAccepted (learned_encoder limits s) (decoder_instructions_in n replies)
learned_accepted s limits n replies h = by_test (has_table s.most_capacity limits)
  where
    front : AreAccepted s (decoder_instructions_in n replies)
    front = accepted_front s (decoder_instructions_in n replies) (drop (whole_in decoder_bytes n replies) replies) (subst (λ l. AreAccepted s l) (sym (take-append-drop (whole_in decoder_bytes n replies) replies)) h)

    by_test : (b : Bool) → AreAccepted (if b then using_table s limits.table limits.blocked else s) (decoder_instructions_in n replies)
    by_test true = accepted_limited s limits.table limits.blocked (decoder_instructions_in n replies) front
    by_test false = front

settles : (laws : StreamLaws) (a : Announced) (x : EndpointHistory) (before : Option (List (ℕ × ℕ))) (b c : Bool) (came : ℕ) (replies : List DecoderInstruction) → TakesAnyLength x.announced → Announces a
    → before ≡ (if b then Some (with_meaning a.settings) else None) → x.peer.settings ≡ (if c then Some (with_meaning a.settings) else None)
    → x.decoder_unread ≡ replies_unread b came replies → AllByRecursion IsReply replies → (b ≡ false → AreAccepted x.encoder replies) → (b ≡ true → c ≡ true)
    → settled before (if c then Some (with_meaning a.settings) else None) x ≡ without_fault (after_control b c x a.limits came replies)
settles laws a x before true true came replies any h was now left written accepted order = ap (λ s. settled s (Some (with_meaning a.settings)) x) was
settles laws a x before true false came replies any h was now left written accepted order = let e = order refl in absurd (cc)
settles laws a x before false false came replies any h was now left written accepted order = ap (λ s. settled s None x) was
settles laws a x before false true came replies any h was now left written accepted order =
    let kept = with_meaning a.settings in
    let y = knowing x a.limits in
    let n = came - 1 in
    let bytes : x.decoder_unread ++ [] ≡ take n (flat_map decoder_bytes replies) = append-nil x.decoder_unread ∙ left in
    let reads : listen y.encoder (x.decoder_unread ++ []) ≡ listened (encoder_after_all y.encoder (decoder_instructions_in n replies)) (rest_in decoder_bytes n replies) false =
    ap (listen y.encoder) bytes ∙ laws.listened_fronts y.encoder replies n written (learned_accepted x.encoder a.limits n replies (accepted refl)) in
    ap (λ s. settled s (Some kept) x) was
    ∙ ap (λ e. read_decoder e []) (knows_limits x a h)
    ∙ decoder_unlimited y [] any (ap is_some now) ∙ ap (listened_whole y) reads

-- what it knows, as a value
pub peer_is : (setup : Setup) (side : Side) (came : ℕ) (gs : List ℕ) (stream : Option Unidirectional) (on : Option ℕ) (peer : Peer) → HasControl setup side came gs stream on peer
    → peer ≡ peer_by (most_kept (announced_at setup side)) (announced_at setup (other side)) (nat_le (length (settings_bytes (announced_at setup (other side)))) came) came gs
peer_is setup side came gs stream on peer h =
    let p = peer_by (most_kept (announced_at setup side)) (announced_at setup (other side)) (nat_le (length (settings_bytes (announced_at setup (other side)))) came) came gs in
    ap (λ x. peer_of x peer.settings peer.goaways peer.most_pushes peer.updates peer.others) h.unread
    ∙ ap (λ x. peer_of p.unread x peer.goaways peer.most_pushes peer.updates peer.others) h.settings
    ∙ ap (λ x. peer_of p.unread p.settings x peer.most_pushes peer.updates peer.others) h.goaways_are
    ∙ ap (λ x. peer_of p.unread p.settings p.goaways x peer.updates peer.others) h.most_pushes
    ∙ ap (λ x. peer_of p.unread p.settings p.goaways p.most_pushes x peer.others) h.updates
    ∙ ap (λ x. peer_of p.unread p.settings p.goaways p.most_pushes p.updates x) h.others

not_yet : (a n : ℕ) → nat_le a n ≡ false → n < a
not_yet a n e = grind (arith, common_steps, e)

never : (a n : ℕ) → 0 < a → n ≡ 0 → nat_le a n ≡ false
never a n h k = grind (arith, common_steps, h, k)

pub still : (a n m : ℕ) → nat_le a n ≡ true → n ≤ m → nat_le a m ≡ true
still a n m e h = grind (arith, common_steps, e, h)

-- **Further bytes of the control stream.**
pub control_came : (laws : StreamLaws) (setup : Setup) (side : Side) (e : EndpointHistory) (came count : ℕ) (gs : List ℕ) (replies_came : ℕ) (replies : List DecoderInstruction) (stream : Option Unidirectional)
    → HasControl setup side came gs stream e.control_on e.peer → MayListen setup side e came gs replies_came replies
    → heard_as (with_unidirectional e (control_id (other side)) (with_role (role_by (came + count) Control))) (control_id (other side)) (role_by (came + count) Control)
    (behind_type came count (settings_frame_of (announced_at setup (other side)) ++ flat_map goaway_encoding gs))
    ≡ without_fault (after_control (nat_le (length (settings_bytes (announced_at setup (other side)))) came) (nat_le (length (settings_bytes (announced_at setup (other side)))) (came + count))
    (controlling e (control_id (other side)) (with_role (role_by (came + count) Control)) (came_on (came + count) (control_id (other side)))
    (peer_by (most_kept (announced_at setup side)) (announced_at setup (other side)) (nat_le (length (settings_bytes (announced_at setup (other side)))) (came + count)) (came + count) gs))
    (announced_at setup (other side)).limits replies_came replies)
control_came laws setup side e came count gs replies_came replies stream h m = by_test (came + count == 0) refl
  where
    id : ℕ
    id = control_id (other side)

    a : Announced
    a = announced_at setup (other side)

    top : ℕ × ℕ
    top = most_kept (announced_at setup side)

    L : ℕ
    L = length (settings_bytes a)

    bytes : List ℕ
    bytes = behind_type came count (settings_frame_of a ++ flat_map goaway_encoding gs)

    knew : Bool
    knew = nat_le L came

    knows : Bool
    knows = nat_le L (came + count)

    peer : Peer
    peer = peer_by top a knows (came + count) gs

    some : 0 < L
    some = omega (arith, length_settings a)

    -- nothing comes before the settings, and they are taken
    none_missing : (b : Bool) → knew ≡ b → lacks_settings (holding e bytes) ≡ false
    none_missing true t = known_missed (holding e bytes) (with_meaning a.settings) (h.settings ∙ ap (λ b. if b then Some (with_meaning a.settings) else None) t)
    none_missing false t =
        let is = peer_is setup side came gs stream e.control_on e.peer h in
        let unread : e.peer.unread ≡ drop 1 (take came (settings_bytes a)) =
        ap (λ (p : Peer). p.unread) is ∙ ap (λ b. (peer_by top a b came gs).unread) t in
        and_right (is_strict e.announced && is_none e.peer.settings) (begins_other (e.peer.unread ++ bytes))
        (ap (λ l. begins_other (l ++ bytes)) unread ∙ nothing_else_first a came count (flat_map goaway_encoding gs) (not_yet L came t))

    none_refused : (x : EndpointHistory) → x.side ≡ side → x.announced ≡ e.announced → (b : Bool) (o : Option (List (ℕ × ℕ))) → are_refused x o (if b then Some (with_meaning a.settings) else None) ≡ false
    none_refused x side_is own_is b (Some known) = refl
    none_refused x side_is own_is false None = refl
    none_refused x side_is own_is true None =
        ap (λ s. settings_refused s x.announced (Some (with_meaning a.settings))) side_is ∙ ap (λ own. settings_refused side own (Some (with_meaning a.settings))) own_is ∙ m.takes

    some_came : heard_as (with_unidirectional e id (with_role Control)) id Control bytes ≡ without_fault (after_control knew knows (controlling e id (with_role Control) (Some id) peer) a.limits replies_came replies)
    some_came =
        let first = with_unidirectional e id (with_role Control) in
        let on = record first { control_on = Some id } in
        let before = peer_by top a knew came gs in
        let is = peer_is setup side came gs stream e.control_on e.peer h in
        let reads : read_peer (kinds_of e.announced) no_limit side (with_unread before (before.unread ++ bytes)) ≡ (peer, None) =
        subst (λ s. read_peer (kinds_of e.announced) no_limit s (with_unread before (before.unread ++ bytes)) ≡ (peer, None)) (other-other side) (peer_came (other side) a came count gs m.announces m.goaways knew knows refl refl (kinds_of e.announced) top) in
        let h_on = holding on bytes in
        let found : read_peer (kinds_of e.announced) (limit_of e) e.side h_on.peer ≡ (peer, None) =
        without_limit (kinds_of e.announced) (limit_of e) e.side (with_unread e.peer (e.peer.unread ++ bytes)) m.any
        ∙ ap (λ s. read_peer (kinds_of e.announced) no_limit s (with_unread e.peer (e.peer.unread ++ bytes))) m.side_is
        ∙ ap (λ p. read_peer (kinds_of e.announced) no_limit side (with_unread p (p.unread ++ bytes))) is ∙ reads in
        let judged : read_control on bytes ≡ taken_peer on (read_peer (kinds_of e.announced) (limit_of e) e.side h_on.peer) =
        held_taken h_on (none_missing knew refl)
        (ap (λ (x : PeerFound). are_refused h_on e.peer.settings x.0.settings) found ∙ none_refused h_on m.side_is refl knows e.peer.settings) in
        ap (λ b. unless_second b first (read_control on bytes)) (ap (λ x. is_second x id) h.is_on ∙ is_first came id)
        ∙ judged
        ∙ ap (taken_peer on) (without_limit (kinds_of e.announced) (limit_of e) e.side (with_unread e.peer (e.peer.unread ++ bytes)) m.any)
        ∙ ap (λ s. taken_peer on (read_peer (kinds_of e.announced) no_limit s (with_unread e.peer (e.peer.unread ++ bytes)))) m.side_is
        ∙ ap (λ p. taken_peer on (read_peer (kinds_of e.announced) no_limit side (with_unread p (p.unread ++ bytes)))) is
        ∙ ap (taken_peer on) reads
        ∙ settles laws a (controlling e id (with_role Control) (Some id) peer) e.peer.settings knew knows replies_came replies m.any m.announces h.settings refl m.left m.written m.accepted (λ t. still L came (came + count) t (omega arith))

    nothing_learned : (b c : Bool) (x : EndpointHistory) → c ≡ false → x ≡ after_control b c x a.limits replies_came replies
    nothing_learned true c x t = refl
    nothing_learned false false x t = refl
    nothing_learned false true x t = absurd (cc)

    by_test : (b : Bool) → (came + count == 0) ≡ b
        → heard_as (with_unidirectional e id (with_role (if b then Untold [] else Control))) id (if b then Untold [] else Control) bytes
        ≡ without_fault (after_control knew knows (controlling e id (with_role (if b then Untold [] else Control)) (if b then None else Some id) peer) a.limits replies_came replies)
    by_test false t = some_came
    by_test true t =
        let none = no_sum came count t in
        let nothing = no_sum_too came count t in
        let whole : came ≡ came + count = omega (arith, nothing) in
        let o = with_role (Untold []) in
        let on : e.control_on ≡ None = h.is_on ∙ ap (λ n. came_on n id) none in
        let same : e.peer ≡ peer = peer_is setup side came gs stream e.control_on e.peer h ∙ ap (λ n. peer_by top a (nat_le L n) n gs) whole in
        ap (λ x. without_fault (controlling e id o x e.peer)) on
        ∙ ap (λ x. without_fault (controlling e id o None x)) same
        ∙ ap without_fault (nothing_learned knew knows (controlling e id o None peer) (never L (came + count) some (omega (arith, none, nothing))))
