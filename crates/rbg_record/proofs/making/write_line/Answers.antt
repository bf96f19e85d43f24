-- The lines for the script are written of each line.
use Rattle.std.proofs.Common.{refl, sym, ◌∙◌}
use Rattle.std.proofs.lemmas.Bool.{true≢false}
use Rattle.rbg_record.proofs.TellingLemmas.{version_tells, players_tell, start_tells, no_start, entry_spelled, entry_tells}
use Rattle.rbg_record.proofs.making.write_line.Goals as goal

pub returns-in_ok-begin-in-Version-clause-leads : goal.returns-in_ok-begin-in-Version-clause-leads
returns-in_ok-begin-in-Version-clause-leads c =
    version_tells c.args.next c.args.line.now.text.now _ _ c.args.out.now.items _ (rw c.in-Version.is at c.requires) c.in_ok-begin-in-Version.ensures

pub returns-in-Players-clause-leads : goal.returns-in-Players-clause-leads
returns-in-Players-clause-leads c = players_tell c.args.next c.args.line.now.text.now _ c.args.out.now.items (rw c.in-Players.is at c.requires)

pub returns-then-not-has_lawful_turns-clause-refused : goal.returns-then-not-has_lawful_turns-clause-refused
returns-then-not-has_lawful_turns-clause-refused c =
    (refl, no_start c.args.next c.args.line.now.text.now _ (rw c.in-Start.is at c.requires) (λ within. true≢false (sym (c.has_lawful_turns.ensures.1 within) ∙ c.if-not-has_lawful_turns.true)))

pub returns-in_ok-write_start-in-Start-clause-leads : goal.returns-in_ok-write_start-in-Start-clause-leads
returns-in_ok-write_start-in-Start-clause-leads c =
    start_tells c.args.next c.args.line.now.text.now _ c.args.out.now.items _ (rw c.in-Start.is at c.requires) (c.has_lawful_turns.ensures.0 c.if-not-has_lawful_turns.false) c.in_ok-write_start-in-Start.ensures

pub write_entry-requires : goal.write_entry-requires
write_entry-requires c = entry_spelled c.args.next c.args.line.now.text.now _ (rw c.in-Entry.is at c.requires)

pub returns-in_ok-write_entry-in-Entry-clause-leads : goal.returns-in_ok-write_entry-in-Entry-clause-leads
returns-in_ok-write_entry-in-Entry-clause-leads c =
    entry_tells c.args.next c.args.line.now.text.now _ _ c.args.out.now.items _ (rw c.in-Entry.is at c.requires) c.in_ok-write_entry-in-Entry.ensures c.after.ensures
