use Rattle.std.proofs.Common.{◌≡◌, ℕ, ◌+◌, ◌-◌, ◌≤◌, Bool, true, cond, ◌&&◌, leb, List, length, set, sym, ap, ◌∙◌, arith, rules}
use Rattle.std.proofs.lemmas.Bool.Decides.{nat_tests}
use Rattle.bus.specs.Address.{space}
use Rattle.storage.specs.Lent.{has_room}
use Rattle.storage.proofs.Lender.{lender_has, put_bytes}
use Rattle.storage.proofs.lent.write.Goals as goal

pub returns-clause-bytes : goal.returns-clause-bytes
returns-clause-bytes c =
    let bytes = c.args.bytes.now in
    let enough : has_room c.args.base bytes ≡ true = search rules in
    let room : c.args.base + length bytes ≤ space = grind (arith, nat_tests) in
    let d = simp c.new-memory.ensures.memory at c.write_any.ensures in
    let put = put_bytes c.args.tag c.args.base bytes c.args.address c.args.byte room in
    let after : Bool → List ℕ = λ r. cond (r && leb c.args.base c.args.address) (set bytes (c.args.address - c.args.base) c.args.byte) bytes in
    lender_has c.write_any.new.bus _ _ _ _ _ _ _ d.kept (search rules) d.after room ∙ put ∙ ap after (sym enough)
