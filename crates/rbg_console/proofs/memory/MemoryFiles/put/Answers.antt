-- The map keeps what it has by other names.
use Rattle.std.proofs.Common.{ap, option_map, string_bytes}
use Rattle.rbg_console.proofs.MemoryLemmas.{other_stays}
use Rattle.rbg_console.proofs.memory.MemoryFiles.put.Goals as goal

pub returns-clause-others : goal.returns-clause-others
returns-clause-others c = λ other apart.
    ap (option_map (λ bytes. bytes.items)) (other_stays (string_bytes c.args.name) other c.args.self.now.files c.insert.new.self c.args.bytes c.in_ok-insert.ensures.updates apart)
