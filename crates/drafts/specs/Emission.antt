-- What is left in a draft by a formula that is read from its start. Assumes nothing.
use Rattle.std.specs.Prelude.{◌≡◌, true, not, ◌&&◌, T, List, [], nat_le}
use Rattle.text.specs.declared.names.Name.{Name}
use Rattle.logic.specs.Limits.{max_nodes, max_entries}
use Rattle.trees.specs.Trees.{size}
use Rattle.trees.specs.Numbering.{nodes_by_depth, entries_of}
use Rattle.trees.specs.Lawful.{lawful}
use Rattle.grammar.specs.Grammar.{Written}
use Rattle.grammar.specs.Questions.{fits, shallow, states_known, events_known, even_nots, resolve}
use Rattle.drafts.specs.Drafts.{Drafted, no_nodes, emit}

-- the draft of a formula
abbrev pub draft_of : (events propositions : List Name) → Written → Drafted
draft_of events propositions t = (emit events propositions t [] true no_nodes).1

-- the draft tells what is wrong with the formula, and holds its nodes and entries where nothing is
pub record Tells (events propositions : List Name) (t : Written) (d : Drafted) : Type 0 where
  pub long : fits t ≡ (nat_le d.count max_nodes && nat_le d.entries.written max_entries)
  pub deep : shallow t ≡ not d.deep
  pub states : T (shallow t) → states_known propositions [] t ≡ not d.unknown
  pub actions : events_known events t ≡ not d.entries.unknown
  pub even : T (shallow t) → even_nots [] [] true t ≡ not d.odd
  pub count : T (fits t) → d.count ≡ size (resolve events propositions [] t)
  pub nodes : T (fits t) → T (shallow t) → d.nodes ≡ nodes_by_depth (resolve events propositions [] t)
  pub entries : T (fits t) → d.entries.list ≡ entries_of (resolve events propositions [] t)
  pub lawful_then : T (shallow t) → T (even_nots [] [] true t) → T (lawful (resolve events propositions [] t))

abbrev pub DraftsTell : Type 0
DraftsTell = (events propositions : List Name) (t : Written) → Tells events propositions t (draft_of events propositions t)
