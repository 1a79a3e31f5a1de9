use Rattle.h3_talk.proofs.talk.talk.Goals as goal

pub answer-requires-clause-small : goal.answer-requires-clause-small
answer-requires-clause-small g c = c.a_script_has_small_events.ensures _ _ _ c.in-Ok.ensures.ok.script

pub answer-requires-clause-plain : goal.answer-requires-clause-plain
answer-requires-clause-plain g c = c.a_script_judges_plainly.ensures _ _ _ _ c.in-Ok.ensures.ok.script
