-- What is done is what the command grants.
use Rattle.std.proofs.Common.{refl, option_map}
use Rattle.rbg_operations.specs.Tasks.{on_file, on_record, recorded_task}
use Rattle.rbg_operations.specs.Tasks.FileCommand.{Check, Referee, Replay, Migrate, Moves}
use Rattle.rbg_cli.specs.Runs.{IsRunFor}
use Rattle.rbg_cli.specs.Words.{match_of_input, on_files, recorded_match, cut_match, moves_of, script_of}
use Rattle.rbg_cli.proofs.WishLemmas.{granted, not_granted}
use Rattle.rbg_cli.proofs.program.obey.Goals as goal

pub returns-in-Check : goal.returns-in-Check
returns-in-Check g c = λ wish.
    granted (λ w. IsRunFor w g.F.Files.knows_new (g.F.Files.told c.args.devices.now.files) (g.F.Files.told c.run_check.new.files)
    (g.R.Read.remaining c.args.devices.now.input) (g.R.Read.remaining c.args.devices.now.input)
    (g.W.Write.contents c.args.devices.now.output) (g.W.Write.contents c.run_check.new.output) c.run_check.result)
    c.args.command _ (on_files (on_file Check c.in-Check.file.now)) wish c.in-Check.is refl (c.run_check.ensures (g.R.Read.remaining c.args.devices.now.input))

pub returns-in-Moves : goal.returns-in-Moves
returns-in-Moves g c = λ wish.
    granted (λ w. IsRunFor w g.F.Files.knows_new (g.F.Files.told c.args.devices.now.files) (g.F.Files.told c.run_moves.new.files)
    (g.R.Read.remaining c.args.devices.now.input) (g.R.Read.remaining c.args.devices.now.input)
    (g.W.Write.contents c.args.devices.now.output) (g.W.Write.contents c.run_moves.new.output) c.run_moves.result)
    c.args.command _ (moves_of c.in-Moves.file.now) wish c.in-Moves.is refl c.run_moves.ensures

pub returns-in-MovesAfter : goal.returns-in-MovesAfter
returns-in-MovesAfter g c = λ wish.
    granted (λ w. IsRunFor w g.F.Files.knows_new (g.F.Files.told c.args.devices.now.files) (g.F.Files.told c.run_moves_after.new.files)
    (g.R.Read.remaining c.args.devices.now.input) (g.R.Read.remaining c.args.devices.now.input)
    (g.W.Write.contents c.args.devices.now.output) (g.W.Write.contents c.run_moves_after.new.output) c.run_moves_after.result)
    c.args.command _ (on_files (on_record Moves c.in-MovesAfter.file.now c.in-MovesAfter.record_file.now)) wish c.in-MovesAfter.is refl (c.run_moves_after.ensures (g.R.Read.remaining c.args.devices.now.input))

pub returns-in-Replay : goal.returns-in-Replay
returns-in-Replay g c = λ wish.
    granted (λ w. IsRunFor w g.F.Files.knows_new (g.F.Files.told c.args.devices.now.files) (g.F.Files.told c.run_replay.new.files)
    (g.R.Read.remaining c.args.devices.now.input) (g.R.Read.remaining c.args.devices.now.input)
    (g.W.Write.contents c.args.devices.now.output) (g.W.Write.contents c.run_replay.new.output) c.run_replay.result)
    c.args.command _ (on_files (on_record Replay c.in-Replay.file.now c.in-Replay.record_file.now)) wish c.in-Replay.is refl (c.run_replay.ensures (g.R.Read.remaining c.args.devices.now.input))

pub returns-in-Migrate : goal.returns-in-Migrate
returns-in-Migrate g c = λ wish.
    granted (λ w. IsRunFor w g.F.Files.knows_new (g.F.Files.told c.args.devices.now.files) (g.F.Files.told c.run_migrate.new.files)
    (g.R.Read.remaining c.args.devices.now.input) (g.R.Read.remaining c.args.devices.now.input)
    (g.W.Write.contents c.args.devices.now.output) (g.W.Write.contents c.run_migrate.new.output) c.run_migrate.result)
    c.args.command _ (on_files (on_record Migrate c.in-Migrate.file.now c.in-Migrate.record_file.now)) wish c.in-Migrate.is refl (c.run_migrate.ensures (g.R.Read.remaining c.args.devices.now.input))

pub returns-in-RefereeInput : goal.returns-in-RefereeInput
returns-in-RefereeInput g c = λ wish.
    granted (λ w. IsRunFor w g.F.Files.knows_new (g.F.Files.told c.args.devices.now.files) (g.F.Files.told c.args.devices.now.files)
    (g.R.Read.remaining c.args.devices.now.input) (g.R.Read.remaining c.run_referee.new.input)
    (g.W.Write.contents c.args.devices.now.output) (g.W.Write.contents c.run_referee.new.output) c.run_referee.result)
    c.args.command _ match_of_input wish c.in-RefereeInput.is refl c.run_referee.ensures

pub returns-in-Referee : goal.returns-in-Referee
returns-in-Referee g c = λ wish.
    granted (λ w. IsRunFor w g.F.Files.knows_new (g.F.Files.told c.args.devices.now.files) (g.F.Files.told c.run_match.new.files)
    (g.R.Read.remaining c.args.devices.now.input) (g.R.Read.remaining c.run_match.new.input)
    (g.W.Write.contents c.args.devices.now.output) (g.W.Write.contents c.run_match.new.output) c.run_match.result)
    c.args.command _ (on_files (on_file Referee c.in-Referee.file.now)) wish c.in-Referee.is refl c.run_match.ensures

pub returns-in-Recorded : goal.returns-in-Recorded
returns-in-Recorded g c = λ wish.
    granted (λ w. IsRunFor w g.F.Files.knows_new (g.F.Files.told c.args.devices.now.files) (g.F.Files.told c.run_recorded.new.files)
    (g.R.Read.remaining c.args.devices.now.input) (g.R.Read.remaining c.run_recorded.new.input)
    (g.W.Write.contents c.args.devices.now.output) (g.W.Write.contents c.run_recorded.new.output) c.run_recorded.result)
    c.args.command _ (recorded_match (recorded_task (option_map (λ name. name.now) c.in-Recorded.file) c.in-Recorded.target.now)) wish c.in-Recorded.is refl c.run_recorded.ensures

pub returns-in-Cut : goal.returns-in-Cut
returns-in-Cut g c = λ wish.
    granted (λ w. IsRunFor w g.F.Files.knows_new (g.F.Files.told c.args.devices.now.files) (g.F.Files.told c.run_cut.new.files)
    (g.R.Read.remaining c.args.devices.now.input) (g.R.Read.remaining c.run_cut.new.input)
    (g.W.Write.contents c.args.devices.now.output) (g.W.Write.contents c.run_cut.new.output) c.run_cut.result)
    c.args.command _ (cut_match (option_map (λ name. name.now) c.in-Cut.file)) wish c.in-Cut.is refl c.run_cut.ensures

pub returns-in-Script : goal.returns-in-Script
returns-in-Script g c = λ wish.
    granted (λ w. IsRunFor w g.F.Files.knows_new (g.F.Files.told c.args.devices.now.files) (g.F.Files.told c.run_script.new.files)
    (g.R.Read.remaining c.args.devices.now.input) (g.R.Read.remaining c.args.devices.now.input)
    (g.W.Write.contents c.args.devices.now.output) (g.W.Write.contents c.run_script.new.output) c.run_script.result)
    c.args.command _ (script_of c.in-Script.record_file.now) wish c.in-Script.is refl c.run_script.ensures

pub returns-in-Ask : goal.returns-in-Ask
returns-in-Ask g c = λ wish. not_granted c.args.command _ wish c.in-Ask.is refl

pub returns-in-Demo : goal.returns-in-Demo
returns-in-Demo g c = λ wish. not_granted c.args.command _ wish c.in-Demo.is refl

pub returns-in-Serve : goal.returns-in-Serve
returns-in-Serve g c = λ wish. not_granted c.args.command _ wish c.in-Serve.is refl

pub returns-in-Play : goal.returns-in-Play
returns-in-Play g c = λ wish. not_granted c.args.command _ wish c.in-Play.is refl

pub returns-in-Hall : goal.returns-in-Hall
returns-in-Hall g c = λ wish. not_granted c.args.command _ wish c.in-Hall.is refl

pub returns-in-HallScript : goal.returns-in-HallScript
returns-in-HallScript g c = λ wish. not_granted c.args.command _ wish c.in-HallScript.is refl
