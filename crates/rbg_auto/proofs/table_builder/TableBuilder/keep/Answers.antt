-- The proof of `table_builder::TableBuilder::keep`.
use Rattle.rbg_auto.proofs.table_builder.TableBuilder.keep.Goals as goal

pub returns-in-Some-clause-keeps : goal.returns-in-Some-clause-keeps
returns-in-Some-clause-keeps c = c.requires.keeps c.in-Some.span c.in-Some.is
