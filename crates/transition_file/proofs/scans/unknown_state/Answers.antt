use Rattle.std.proofs.Common.{not, rules}
use borrow.Author.Tests.{tests}
use Rattle.std.proofs.lemmas.Iterator.Search.{find_from_yields_List}
use Rattle.std.proofs.lemmas.Iterator.Consumers.{YieldsList-from_first}
use Rattle.files.specs.Lines.{row_of, rows_left}
use Rattle.transition_file.specs.TransitionPart.{on_arrow, joins_states, body}
use Rattle.transition_file.proofs.Scanning.{start_found}
use Rattle.transition_file.proofs.scans.unknown_state.Goals as goal

pub returns : goal.returns
returns c =
    let found = find_from_yields_List (λ r. not (on_arrow (joins_states c.args.states) r)) c.find.new.self _ c.find.result c.find.ensures.ran (YieldsList-from_first row_of rows_left (body c.args.file.now) c.body_lines.ensures) (λ x b q k. search (rules, tests)) in
    let start = start_found (on_arrow (joins_states c.args.states)) (body c.args.file.now) c.find.result found in
    search rules
