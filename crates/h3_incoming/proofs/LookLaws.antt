-- A pull that looks at the field section that is next, and then passes it.
use Rattle.std.proofs.Common.{◌≡◌, ℕ, Bool, true, false, List, Some, refl, ap, sym, ◌∙◌, subst}
use Rattle.std.specs.Prelude.{Option, None, IfSome, is_some}
use Rattle.h3_proto.specs.declared.stream.Side.{Side}
use Rattle.h3_qpack.specs.DecodedSection.{decode_section}
use Rattle.h3_qpack.specs.DecoderState.{DecoderState}
use Rattle.h3_connection.specs.Incoming.{Incoming}
use Rattle.h3_connection.specs.Pulling.{acknowledgment, at_section, decoded, is_memory, past_section, pull_stream}
use Rattle.h3_connection.specs.declared.event.Pull.{Pull}
use Rattle.h3_connection.specs.declared.setup.Announced.{Announced}
use Rattle.h3_incoming.specs.Gives.{Gives}
use Rattle.h3_incoming.specs.Judging.{judged_as}
use Rattle.h3_incoming.specs.Looking.{BeginsSection, IsJudged}
use Rattle.h3_incoming.specs.Placing.{is_session}
use Rattle.h3_incoming.specs.declared.judge.Judged.{Judged}
use Rattle.h3_incoming.proofs.ListLaws.{next_waiting}
use Rattle.h3_incoming.proofs.PullLaws.{gives_as, pull_of_section}
use Rattle.h3_incoming.proofs.ResumeLaws.{resumes_same}

module _ (side : Side) (own : Announced) (id : ℕ) where
  -- the section that waits
  pub begins_waiting : (i : Incoming) (section : Option (List ℕ)) → i.fault ≡ None → i.is_over ≡ false → is_session i.place ≡ false → i.section ≡ section → is_some section ≡ true → BeginsSection side own id i i
  begins_waiting i (Some bytes) no_fault over message next there = record {
    there = ap is_some next;
    pulls = subst (λ o. IfSome o (λ b. (r : DecoderState) → pull_stream side own id r i ≡ at_section side own id r i b)) (sym next) (λ r. pull_of_section side own id r i bytes no_fault over message next);
    lists = λ r. next_waiting own r i (Some bytes) next refl;
    resumes = resumes_same own i i refl;
  }
  begins_waiting i None no_fault over message next there = absurd (cc)

  -- what is said of the section that stands next is said of the pull
  pub gives_begun : (r : DecoderState) (old mid : Incoming) (answer : Pull) (new : Incoming) (before after : List ℕ) → BeginsSection side own id old mid
      → IfSome mid.section (λ bytes. is_memory answer ≡ false → Gives (at_section side own id r mid bytes) answer new before after)
      → is_memory answer ≡ false → Gives (pull_stream side own id r old) answer new before after
  gives_begun r old mid answer new before after b h given = by mid.section b.there b.pulls h
    where
      by : (o : Option (List ℕ)) → is_some o ≡ true → IfSome o (λ bytes. (s : DecoderState) → pull_stream side own id s old ≡ at_section side own id s mid bytes)
          → IfSome o (λ bytes. is_memory answer ≡ false → Gives (at_section side own id r mid bytes) answer new before after) → Gives (pull_stream side own id r old) answer new before after
      by (Some bytes) there pulls gives = gives_as _ _ _ _ _ _ (pulls r) (gives given)
      by None there pulls gives = absurd (cc)

  -- and so is what is said of the section as it was judged
  pub gives_judged : (r : DecoderState) (i : Incoming) (bytes : List ℕ) (j : Judged) (acknowledges : Bool) (answer told : Pull) (new : Incoming) (before after : List ℕ) (b : IsJudged side own r i bytes j acknowledges answer)
      → Gives (judged_as id (past_section i) (acknowledgment id b.count) answer j) told new before after → Gives (decoded side own id r i (decode_section r bytes)) told new before after
  gives_judged r i bytes j acknowledges answer told new before after b h = gives_as _ _ _ _ _ _ (ap (decoded side own id r i) b.decodes ∙ b.reads id) h
