-- The limits of a setup that was made take whatever is sent that keeps to what is announced.
use Rattle.std.proofs.Common.{◌≡◌, ℕ, ◌-◌, ◌^◌, ◌*◌, ◌≤◌, Bool, true, false, arith, refl, inl, inr, sym, ◌∙◌, length}
use Rattle.std.specs.Prelude.{max}
use Rattle.std.proofs.lemmas.Bool.{cases_lt, lt-ltb}
use Rattle.h3_proto.specs.Config.{is_limit}
use Rattle.h3_proto.specs.Pairs.{payload_of}
use Rattle.h3_proto.specs.declared.stream.Side.TheVariants.{Client, Server}
use Rattle.h3_qpack.specs.InstructionSizes.{most_instruction}
use Rattle.h3_connection.specs.Announcing.{section_of}
use Rattle.h3_connection.specs.AnnouncingLaws.{limit_takes_announced}
use Rattle.h3_connection.specs.declared.setup.Announced.{Announced}
use Rattle.h3_world.specs.Setup.{IsMade, IsMadeSetup, Setup}
use Rattle.h3_headline.specs.AnnouncedLaws.{announces}
use Rattle.h3_headline.specs.PeerStreams.{Announces}
use Rattle.h3_strict.specs.Limits.{LimitsTakeWhatIsSent}

-- what is no limit is above all that is announced but a size of sections
at_least : (most : ℕ) → is_limit most ≡ false → 2 ^ 62 - 1 ≤ most
at_least most none = elim (cases_lt most (2 ^ 62 - 1)) [
  | inl below ↦ absurd (let never : true ≡ false = sym (lt-ltb most (2 ^ 62 - 1) below) ∙ none in cc)
  | inr above ↦ above
]

module _ (own peer : Announced) (made : IsMade own) (peer_made : IsMade peer) where
  abbrev most : ℕ
  most = own.choices.unfinished_limit

  abbrev Takes : Type 0
  Takes = (max (most_instruction own.limits.table) (length (payload_of peer.settings)) ≤ most) × (is_limit most ≡ true → 4 * section_of own ≤ most)

  takes : Takes
  takes = by_limit (is_limit most) refl
    where
      here : Announces own
      here = announces own made

      there : Announces peer
      there = announces peer peer_made

      by_limit : (b : Bool) → is_limit most ≡ b → Takes
      by_limit true limited =
          let h = limit_takes_announced own limited made.within in
          (omega (arith, h.1, h.2, there.few), λ limited. h.0)
      by_limit false none = (omega (arith, at_least most none, here.low, there.few), λ limited. absurd (let never : false ≡ true = sym none ∙ limited in cc))

-- **Those of both sides.**
pub limits_made : (setup : Setup) → IsMadeSetup setup → LimitsTakeWhatIsSent setup
limits_made setup made Client = takes setup.client setup.server (made.sides Client) (made.sides Server)
limits_made setup made Server = takes setup.server setup.client (made.sides Server) (made.sides Client)
