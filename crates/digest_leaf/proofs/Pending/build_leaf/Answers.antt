-- `digest_leaf::Pending::build_leaf` meets its contract.
use Rattle.leaf_cut.specs.Records.{span_of, records_from}
use Rattle.leaf_write.proofs.Leaves.{a_leaf_begins, a_leaf_has_room, a_leaf_is_built}
use Rattle.digest_leaf.proofs.Pending.build_leaf.Goals as goal

pub begin-at-requires : goal.begin-at-requires
begin-at-requires c =
    let a = c.args in
    a_leaf_begins a.d.now a.leaf (records_from (span_of a.self.work.now) a.self.list.now a.self.store.now a.self.node.page.now a.start) c.requires.fits

pub push_records-requires : goal.push_records-requires
push_records-requires c =
    let a = c.args in
    let req = c.requires in
    let begun = c.begin-at in
    record {
      kept = req.kept;
      there = req.there;
      enough = req.fits.there;
      room = a_leaf_has_room a.d.now a.leaf (records_from (span_of a.self.work.now) a.self.list.now a.self.store.now a.self.node.page.now a.start) req.fits begun.new.d begun.result begun.ensures.0 begun.ensures.1;
    }

pub returns : goal.returns
returns c =
    let a = c.args in
    let begun = c.begin-at in
    a_leaf_is_built a.d.now a.leaf (records_from (span_of a.self.work.now) a.self.list.now a.self.store.now a.self.node.page.now a.start) c.requires.fits begun.new.d begun.result begun.ensures.0 begun.ensures.1 c.push_records.new.d c.push_records.ensures
