-- Each name adds the rows of its network.
use Rattle.std.proofs.Common.{◌≡◌, ℕ, ◌+◌, ◌<◌, List, [], ◌++◌, length, map, get_or, drop, sym, ap, ◌∙◌, arith}
use Rattle.std.proofs.lemmas.List.{get_or-map, length-map}
use Rattle.line.specs.declared.run.Run.{Run}
use Rattle.names.specs.declared.name.Name.{Name}
use Rattle.names.specs.Texts.{text_of, texts}
use Rattle.planwrite.specs.Written.{net_text, nets_text}
use Rattle.planwrite.proofs.Writing.{begin, part_fits, part_taken, all_spent, nets_step}
use Rattle.planwrite.proofs.rows.write_nets.Goals as goal

-- the networks from that of the name at i on
step : {A : Type 0} (text : A → List ℕ) (names : List (List ℕ)) (runs : List (Run A ℕ)) (items : List Name) (item : Name) (i : ℕ) (name : List ℕ)
    → map text_of items ≡ names → i < length items → item ≡ get_or items i item → name ≡ text_of item
    → nets_text text (i + 1) (drop i names) runs ≡ net_text text (i + 1) name runs ++ nets_text text (i + 1 + 1) (drop (i + 1) names) runs
step text names runs items item i name are inside is told =
    nets_step text names runs i name (omega (arith, length-map items text_of, ap length are))
    (told ∙ ap text_of is ∙ sym (get_or-map text_of items i item [] inside) ∙ ap (λ (q : List (List ℕ)). get_or q i []) are)

pub loop-i-init : goal.loop-i-init
loop-i-init g c = begin g.met.S.Sink.laws _ c.args.sink.now c.requires

pub write_net-requires : goal.write_net-requires
write_net-requires g c =
    let text = g.A.Address.text in
    let names = texts c.args.names.now in
    let i = c.loop-i.i in
    part_fits g.met.S.Sink.laws c.loop-i.invariant (nets_text text (i + 1 + 1) (drop (i + 1) names) c.args.runs.now)
    (step text names c.args.runs.now _ c.name-item.result i c.text.result.now c.as_slice-name-items.ensures c.loop-i-test.true c.name-item.is c.text.ensures)

pub returns-then-is_spent : goal.returns-then-is_spent
returns-then-is_spent g c =
    let text = g.A.Address.text in
    let names = texts c.args.names.now in
    let i = c.loop-i.i in
    all_spent g.met.S.Sink.laws
    (part_taken g.met.S.Sink.laws c.loop-i.invariant
    (step text names c.args.runs.now _ c.name-item.result i c.text.result.now c.as_slice-name-items.ensures c.loop-i-test.true c.name-item.is c.text.ensures)
    c.write_net.ensures)
    (g.met.S.Spendable.stays _ (nets_text text (i + 1 + 1) (drop (i + 1) names) c.args.runs.now) (sym c.is_spent.ensures ∙ c.if-is_spent.true))

pub loop-i-preserved : goal.loop-i-preserved
loop-i-preserved g c =
    let text = g.A.Address.text in
    let names = texts c.args.names.now in
    part_taken g.met.S.Sink.laws c.loop-i.invariant
    (step text names c.args.runs.now _ c.name-item.result c.loop-i.i c.text.result.now c.as_slice-name-items.ensures c.loop-i-test.true c.name-item.is c.text.ensures)
    c.write_net.ensures
