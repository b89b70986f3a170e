use Rattle.std.proofs.Common.{not, ◌&&◌, ◌||◌, sym, ap, ◌∙◌}
use Rattle.logic.specs.Events.{part_satisfies}
use Rattle.logic.proofs.Turns.{of_none, of_some}
use Rattle.logic.proofs.events.+accepts_part_accepts.Goals as goal

pub accepts-returns-in_default : goal.accepts-returns-in_default
accepts-returns-in_default t c = of_none _ _ _ _ c.entry_at.ensures c.in_default.is

pub accepts-returns-in-True : goal.accepts-returns-in-True
accepts-returns-in-True t c = of_some _ _ _ _ c.entry_at.ensures _ _ c.in-Some.is c.in-True.is

pub accepts-returns-in-False : goal.accepts-returns-in-False
accepts-returns-in-False t c = of_some _ _ _ _ c.entry_at.ensures _ _ c.in-Some.is c.in-False.is

pub accepts-returns-in-Tau : goal.accepts-returns-in-Tau
accepts-returns-in-Tau t c = c.is_silent.ensures ∙ of_some _ _ _ _ c.entry_at.ensures _ _ c.in-Some.is c.in-Tau.is

pub accepts-returns-in-Event : goal.accepts-returns-in-Event
accepts-returns-in-Event t c = c.has.ensures.below ∙ of_some _ _ _ _ c.entry_at.ensures _ _ c.in-Some.is c.in-Event.is

pub accepts-returns-in-Not : goal.accepts-returns-in-Not
accepts-returns-in-Not t c = ap not c.part_accepts.ensures ∙ of_some _ _ _ _ c.entry_at.ensures _ _ c.in-Some.is c.in-Not.is

pub accepts-returns-then-part_accepts : goal.accepts-returns-then-part_accepts
accepts-returns-then-part_accepts t c =
    let b = part_satisfies c.args.entries.now c.args.entry c.args.events c.in-And.b in
    c.part_accepts-then-part_accepts.ensures ∙ ap (λ a. a && b) (sym c.if-part_accepts.true ∙ c.part_accepts-in-And.ensures) ∙ of_some _ _ _ _ c.entry_at.ensures _ _ c.in-Some.is c.in-And.is

pub accepts-returns-else-part_accepts : goal.accepts-returns-else-part_accepts
accepts-returns-else-part_accepts t c =
    let b = part_satisfies c.args.entries.now c.args.entry c.args.events c.in-And.b in
    c.if-part_accepts.false ∙ ap (λ a. a && b) (sym c.if-part_accepts.false ∙ c.part_accepts-in-And.ensures) ∙ of_some _ _ _ _ c.entry_at.ensures _ _ c.in-Some.is c.in-And.is

pub accepts-returns-then-part_accepts-2 : goal.accepts-returns-then-part_accepts-2
accepts-returns-then-part_accepts-2 t c =
    let b = part_satisfies c.args.entries.now c.args.entry c.args.events c.in-Or.b in
    c.if-part_accepts-2.true ∙ ap (λ a. a || b) (sym c.if-part_accepts-2.true ∙ c.part_accepts-in-Or.ensures) ∙ of_some _ _ _ _ c.entry_at.ensures _ _ c.in-Some.is c.in-Or.is

pub accepts-returns-else-part_accepts-2 : goal.accepts-returns-else-part_accepts-2
accepts-returns-else-part_accepts-2 t c =
    let b = part_satisfies c.args.entries.now c.args.entry c.args.events c.in-Or.b in
    c.part_accepts-else-part_accepts-2.ensures ∙ ap (λ a. a || b) (sym c.if-part_accepts-2.false ∙ c.part_accepts-in-Or.ensures) ∙ of_some _ _ _ _ c.entry_at.ensures _ _ c.in-Some.is c.in-Or.is
