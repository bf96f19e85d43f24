use Rattle.std.proofs.Common.{sym, subst}
use Rattle.rbg_record.proofs.Common.{Reached}
use Rattle.rbg_record.specs.ByLine.{ReadsLine}
use Rattle.rbg_record.proofs.Saying.{says_version, says_players, says_start}
use Rattle.rbg_record.proofs.reading.judge_content.Goals as goal

pub returns-in-Version : goal.returns-in-Version
returns-in-Version c =
    let said = says_version _ c.args.line.now.text.now _ (rw c.in-Version.is at c.requires.says) in
    subst (λ (reached : Reached). ReadsLine c.args.game.now reached c.args.line.now.text.now c.begin.result) (sym said.0) (c.begin.ensures c.args.line.now.text.now said.1)

pub returns-in-Players : goal.returns-in-Players
returns-in-Players c =
    let said = says_players _ c.args.line.now.text.now _ (rw c.in-Players.is at c.requires.says) in
    subst (λ (reached : Reached). ReadsLine c.args.game.now reached c.args.line.now.text.now c.compare_players.result) (sym said.0) (c.compare_players.ensures c.args.line.now.text.now said.1)

pub returns-in-Start : goal.returns-in-Start
returns-in-Start c =
    let said = says_start _ c.args.line.now.text.now _ (rw c.in-Start.is at c.requires.says) in
    subst (λ (reached : Reached). ReadsLine c.args.game.now reached c.args.line.now.text.now c.start_at.result) (sym said.0) (c.start_at.ensures c.args.line.now.text.now said.1)

pub returns-in-Entry : goal.returns-in-Entry
returns-in-Entry c = c.go_on.ensures c.args.line.now.text.now (rw c.in-Entry.is at c.requires.says)
