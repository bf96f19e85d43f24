use Rattle.std.proofs.Common.{◌<◌, ap, length, subst, take, drop, refl, ◌++◌, ◌∙◌, arith}
use Rattle.rbg_serving.proofs.Common.{Nothing, Failed, bytes_in, all_given, gives_nothing, ends, fails, Told}
use Rattle.rbg_serving.proofs.MemoryLemmas.{give_at, given_some, only_gives, part_given, rest_given}
use Rattle.rbg_serving.proofs.memory_line.calls.MemoryLineLine.poll.Goals as goal

pub returns-in_default-clause-gives : goal.returns-in_default-clause-gives
returns-in_default-clause-gives c =
    let none = c.in_default.ensures.lookup.3 in
    let list = c.as_slice.ensures.value in
    only_gives (all_given (omega (arith, none, ap length list))) refl refl refl refl refl

pub returns-then-count-rest-clause-told : goal.returns-then-count-rest-clause-told
returns-then-count-rest-clause-told c =
    let line = c.args.self.now in
    let give = give_at c.args.self.now.whole Nothing (c.in-Some.ensures.lookup.3.1 Nothing) c.as_slice.ensures.value c.in-Bytes.is in
    let rest = c.beyond-rest.ensures ∙ ap (drop line.offset) c.deref.ensures.value in
    λ so_far tells. record {
      record_of = record {
        is =
            ap (λ (t : Told). record t { given = t.given ++ take c.copy-count.result c.copy-count.new.buffer }) tells.record_of.is
            ∙ given_some line.gives.items line.whole line.offset c.copy-count.result line.taken.items so_far.stalls line.failures
            c.in-Bytes.bytes.items (take c.copy-count.result c.copy-count.new.buffer) (ap bytes_in give)
            (c.copy-count.ensures.copied ∙ ap (take c.copy-count.result) rest);
        failures = tells.record_of.failures;
        stalls = tells.record_of.stalls;
      };
      counted = tells.counted;
    }

pub returns-then-count-rest-clause-gives : goal.returns-then-count-rest-clause-gives
returns-then-count-rest-clause-gives c =
    let give = give_at c.args.self.now.whole Nothing (c.in-Some.ensures.lookup.3.1 Nothing) c.as_slice.ensures.value c.in-Bytes.is in
    let rest = c.beyond-rest.ensures ∙ ap (drop c.args.self.now.offset) c.deref.ensures.value in
    only_gives (part_given _ _ _ c.copy-count.result c.copy-count.new.buffer c.beyond-rest.result.now _ give refl rest c.copy-count.ensures.most c.copy-count.ensures.copied (omega (arith, c.if-count-rest.true))) refl refl refl refl refl

pub returns-else-count-rest-clause-gives : goal.returns-else-count-rest-clause-gives
returns-else-count-rest-clause-gives c =
    let give = give_at c.args.self.now.whole Nothing (c.in-Some.ensures.lookup.3.1 Nothing) c.as_slice.ensures.value c.in-Bytes.is in
    let rest = c.beyond-rest.ensures ∙ ap (drop c.args.self.now.offset) c.deref.ensures.value in
    only_gives (rest_given _ _ _ c.copy-count.result c.copy-count.new.buffer c.beyond-rest.result.now _ give refl rest c.copy-count.ensures.most c.copy-count.ensures.copied c.if-count-rest.false) refl refl refl refl refl

pub returns-in-Nothing-clause-gives : goal.returns-in-Nothing-clause-gives
returns-in-Nothing-clause-gives c =
    let there = subst (λ items. c.args.self.now.whole < length items) c.as_slice.ensures.value c.in-Some.ensures.lookup.3.0 in
    only_gives (gives_nothing there (give_at c.args.self.now.whole Failed (c.in-Some.ensures.lookup.3.1 Failed) c.as_slice.ensures.value c.in-Nothing.is)) refl refl refl refl refl

pub returns-in-Ended-clause-gives : goal.returns-in-Ended-clause-gives
returns-in-Ended-clause-gives c =
    only_gives (ends (give_at c.args.self.now.whole Nothing (c.in-Some.ensures.lookup.3.1 Nothing) c.as_slice.ensures.value c.in-Ended.is)) refl refl refl refl refl

pub returns-in-Failed-clause-gives : goal.returns-in-Failed-clause-gives
returns-in-Failed-clause-gives c =
    only_gives (fails (give_at c.args.self.now.whole Nothing (c.in-Some.ensures.lookup.3.1 Nothing) c.as_slice.ensures.value c.in-Failed.is)) refl refl refl refl refl
