-- Each event of two stored endpoints is a step of the ends that they stand for, also where memory is refused.
use Rattle.std.proofs.Common.{◌≡◌, List, [], ◌∷◌, Bool, true, false, refl, sym, subst}
use Rattle.h3_proto.specs.declared.stream.Side.{Side}
use Rattle.h3_proto.specs.declared.stream.Side.TheVariants.{Client, Server}
use Rattle.h3_connection.specs.OwnIds.{other}
use Rattle.h3_connection.specs.State.{EndpointState, StandsFor}
use Rattle.h3_world.specs.Ends.{Ends, end_at, with_end, answered}
use Rattle.h3_world.specs.Headline.{is_out_of_memory}
use Rattle.h3_world.specs.declared.event.Answer.{Answer}
use Rattle.h3_world.specs.declared.event.Event.{Event}
use Rattle.h3_world.specs.declared.event.Event.TheVariants as event
use Rattle.h3_memory.specs.Refused.{AnswerOf, EndsRun, EndsStep, LacksMemory}
use Rattle.h3_session.specs.Acting.{Acts, ActsEach, ByOne, FromOne, RunsByCalls}
use Rattle.h3_session.specs.Running.{Shown}
use Rattle.h3_session.proofs.Acting.{acts_answers}
use Rattle.h3_session.proofs.MemoryDeliveries.{BothLack, bytes_lack, end_lacks, reset_lacks as reset_delivery_lacks}
use Rattle.h3_session.proofs.MemoryPulls.{lists_lack, pull_lacks}
use Rattle.h3_session.proofs.MemorySends.{OneLacks, open_lacks, head_lacks, body_lacks, trailer_lacks, fields_lack, trailer_fields_lack, finish_lacks, reset_lacks, cancel_lacks, goaway_lacks}

-- what both endpoints stand for after an event that was refused memory
pub record Lacks (ends : Ends) (e : Event) (a : Answer) (client server : EndpointState) : Type 0 where
  pub new : Ends
  pub lacks : LacksMemory ends e a new
  pub client_stands : StandsFor client new.client
  pub server_stands : StandsFor server new.server

-- and after any
pub record Steps (ends : Ends) (e : Event) (a : Answer) (client server : EndpointState) : Type 0 where
  pub new : Ends
  pub step : EndsStep ends e a new
  pub client_stands : StandsFor client new.client
  pub server_stands : StandsFor server new.server

module _ (ends : Ends) (e : Event) (a : Answer) (client server c s : EndpointState) (client_stands : StandsFor client ends.client) (server_stands : StandsFor server ends.server) where
  by_one : (side : Side) (calls : EndpointState → EndpointState → Answer → Type 0) → ByOne side calls client server a c s
      → ((old new : EndpointState) → StandsFor old (end_at ends side) → calls old new a → OneLacks ends side e a new) → Lacks ends e a c s
  by_one Client calls h lacks =
      let x = lacks client c client_stands h.0 in
      record { new = with_end ends Client x.after; lacks = x.lacks; client_stands = x.stands; server_stands = subst (λ v. StandsFor v ends.server) (sym h.1) server_stands }
  by_one Server calls h lacks =
      let x = lacks server s server_stands h.0 in
      record { new = with_end ends Server x.after; lacks = x.lacks; client_stands = subst (λ v. StandsFor v ends.client) (sym h.1) client_stands; server_stands = x.stands }

  from_one : (side : Side) (goes : EndpointState → EndpointState → Answer → EndpointState → EndpointState → Type 0) → FromOne side goes client server a c s
      → ((writer reader writer_after reader_after : EndpointState) → StandsFor writer (end_at ends side) → StandsFor reader (end_at ends (other side)) → goes writer reader a writer_after reader_after → BothLack ends side e a writer_after reader_after)
      → Lacks ends e a c s
  from_one Client goes h lacks =
      let x = lacks client server c s client_stands server_stands h in
      record { new = record { client = x.written; server = x.read }; lacks = x.lacks; client_stands = x.writer_stands; server_stands = x.reader_stands }
  from_one Server goes h lacks =
      let x = lacks server client s c server_stands client_stands h in
      record { new = record { client = x.read; server = x.written }; lacks = x.lacks; client_stands = x.reader_stands; server_stands = x.writer_stands }

  -- the writer is as it was
  told : (side : Side) (goes : EndpointState → EndpointState → Answer → EndpointState → EndpointState → Type 0) → FromOne side goes client server a c s
      → ((writer reader writer_after reader_after : EndpointState) → StandsFor writer (end_at ends side) → StandsFor reader (end_at ends (other side)) → goes writer reader a writer_after reader_after
      → (writer_after ≡ writer) × OneLacks ends (other side) e a reader_after)
      → Lacks ends e a c s
  told Client goes h lacks =
      let x = lacks client server c s client_stands server_stands h in
      record { new = with_end ends Server x.1.after; lacks = x.1.lacks; client_stands = subst (λ v. StandsFor v ends.client) (sym x.0) client_stands; server_stands = x.1.stands }
  told Server goes h lacks =
      let x = lacks server client s c server_stands client_stands h in
      record { new = with_end ends Client x.1.after; lacks = x.1.lacks; client_stands = x.1.stands; server_stands = subst (λ v. StandsFor v ends.server) (sym x.0) server_stands }

-- what an end shows never tells of refused memory
shown_lacks : (ends : Ends) (side : Side) (old new : EndpointState) (a : Answer) → StandsFor old (end_at ends side) → Shown old a → is_out_of_memory a ≡ true → OneLacks ends side (event.Show side) a new
shown_lacks ends side old new a stands shown memory =
    let none : false ≡ true = subst (λ v. is_out_of_memory v ≡ true) (shown (end_at ends side) stands) memory in
    absurd (cc)

-- where memory was refused
acts_lack : (ends : Ends) (e : Event) (client server : EndpointState) (a : Answer) (c s : EndpointState) → Acts e client server a c s → StandsFor client ends.client → StandsFor server ends.server → is_out_of_memory a ≡ true → Lacks ends e a c s
acts_lack ends (event.OpenRequest side) client server a c s h hc hs memory = by_one ends (event.OpenRequest side) a client server c s hc hs side _ h (λ old new stands called. open_lacks ends side old new a called stands memory)
acts_lack ends (event.Head side id head) client server a c s h hc hs memory = by_one ends (event.Head side id head) a client server c s hc hs side _ h (λ old new stands called. head_lacks ends side old new a id head called stands memory)
acts_lack ends (event.Fields side id fields) client server a c s h hc hs memory = by_one ends (event.Fields side id fields) a client server c s hc hs side _ h (λ old new stands called. fields_lack ends side old new a id fields called stands memory)
acts_lack ends (event.Body side id bytes) client server a c s h hc hs memory = by_one ends (event.Body side id bytes) a client server c s hc hs side _ h (λ old new stands called. body_lacks ends side old new a id bytes called stands memory)
acts_lack ends (event.Trailer side id trailer) client server a c s h hc hs memory = by_one ends (event.Trailer side id trailer) a client server c s hc hs side _ h (λ old new stands called. trailer_lacks ends side old new a id trailer called stands memory)
acts_lack ends (event.TrailerFields side id fields) client server a c s h hc hs memory = by_one ends (event.TrailerFields side id fields) a client server c s hc hs side _ h (λ old new stands called. trailer_fields_lack ends side old new a id fields called stands memory)
acts_lack ends (event.Finish side id) client server a c s h hc hs memory = by_one ends (event.Finish side id) a client server c s hc hs side _ h (λ old new stands called. finish_lacks ends side old new a id called stands memory)
acts_lack ends (event.Reset side id) client server a c s h hc hs memory = by_one ends (event.Reset side id) a client server c s hc hs side _ h (λ old new stands called. reset_lacks ends side old new a id called stands memory)
acts_lack ends (event.Cancel side id) client server a c s h hc hs memory = by_one ends (event.Cancel side id) a client server c s hc hs side _ h (λ old new stands called. cancel_lacks ends side old new a id called stands memory)
acts_lack ends (event.Goaway side id) client server a c s h hc hs memory = by_one ends (event.Goaway side id) a client server c s hc hs side _ h (λ old new stands called. goaway_lacks ends side old new a id called stands memory)
acts_lack ends (event.Deliver side id count) client server a c s h hc hs memory =
    from_one ends (event.Deliver side id count) a client server c s hc hs side _ h
    (λ writer reader writer_after reader_after writer_stands reader_stands goes. bytes_lack ends side id count writer reader writer_after reader_after writer_stands reader_stands a goes memory)
acts_lack ends (event.DeliverEnd side id) client server a c s h hc hs memory =
    told ends (event.DeliverEnd side id) a client server c s hc hs side _ h
    (λ writer reader writer_after reader_after writer_stands reader_stands goes. (goes.same, end_lacks ends side id reader reader_after a reader_stands (goes.there memory (end_at ends side) writer_stands) (goes.lacks memory) memory))
acts_lack ends (event.DeliverReset side id) client server a c s h hc hs memory =
    told ends (event.DeliverReset side id) a client server c s hc hs side _ h
    (λ writer reader writer_after reader_after writer_stands reader_stands goes. (goes.same, reset_delivery_lacks ends side id reader reader_after a reader_stands (goes.there memory (end_at ends side) writer_stands) (goes.lacks memory) memory))
acts_lack ends (event.Pull side id) client server a c s h hc hs memory = by_one ends (event.Pull side id) a client server c s hc hs side _ h (λ old new stands called. pull_lacks ends side id old new a called stands memory)
acts_lack ends (event.PullFields side id) client server a c s h hc hs memory = by_one ends (event.PullFields side id) a client server c s hc hs side _ h (λ old new stands called. lists_lack ends side id old new a called stands memory)
acts_lack ends (event.Show side) client server a c s h hc hs memory = by_one ends (event.Show side) a client server c s hc hs side _ h (λ old new stands called. shown_lacks ends side old new a stands called.1 memory)

pub acts_step : (ends : Ends) (e : Event) (client server : EndpointState) (a : Answer) (c s : EndpointState) → Acts e client server a c s → StandsFor client ends.client → StandsFor server ends.server → Steps ends e a c s
acts_step ends e client server a c s h hc hs = by (is_out_of_memory a) refl
  where
    by : (b : Bool) → is_out_of_memory a ≡ b → Steps ends e a c s
    by false is =
        let x = acts_answers e client server a c s h ends hc hs is in
        record { new = (answered ends e).1; step = subst (λ b. AnswerOf b ends e a (answered ends e).1) (sym is) (x.0, refl); client_stands = x.1; server_stands = x.2 }
    by true is =
        let x = acts_lack ends e client server a c s h hc hs is in
        record { new = x.new; step = subst (λ b. AnswerOf b ends e a x.new) (sym is) x.lacks; client_stands = x.client_stands; server_stands = x.server_stands }

-- So is a run.
pub acts_run : (ends : Ends) (events : List Event) (answers : List Answer) (client server c s : EndpointState) → ActsEach client server events answers c s → StandsFor client ends.client → StandsFor server ends.server
    → (new : Ends) × EndsRun ends events answers new × StandsFor c new.client × StandsFor s new.server
acts_run ends [] [] client server c s h hc hs = (ends, refl, subst (λ v. StandsFor v ends.client) (sym h.0) hc, subst (λ v. StandsFor v ends.server) (sym h.1) hs)
acts_run ends (e ∷ events) (a ∷ answers) client server c s h hc hs =
    let x = acts_step ends e client server a h.0 h.1 h.2 hc hs in
    let rest = acts_run x.new events answers h.0 h.1 c s h.3 x.client_stands x.server_stands in
    (rest.0, (x.new, x.step, rest.1), rest.2, rest.3)
acts_run ends [] (a ∷ answers) client server c s h hc hs = absurd h
acts_run ends (e ∷ events) [] client server c s h hc hs = absurd h

pub calls_run : (ends : Ends) (events : List Event) (answers : List Answer) (c s : EndpointState) → RunsByCalls ends events answers c s → (new : Ends) × EndsRun ends events answers new × StandsFor c new.client × StandsFor s new.server
calls_run ends events answers c s h = acts_run ends events answers h.client h.server c s h.acts h.client_stands h.server_stands
