-- The first n places of the arrays hold the table.
use mathlib.Core.Path.{sym}
use lib.Seq.{length-take-le}
use Rattle.connection.proofs.Tabled.{in_order_lem, in_rows, in-at, in-walked, laid-is}
use Rattle.connection.proofs.work.connect_in.Goals as goal

pub slice_bounds-connect_table-end : goal.slice_bounds-connect_table-end
slice_bounds-connect_table-end c =
    in_order_lem _ _ _ _ _ _ _ _ _ _ c.requires.0 c.requires.1 c.tabulate-n.ensures

pub slice_bounds-connect_table-end-2 : goal.slice_bounds-connect_table-end-2
slice_bounds-connect_table-end-2 c = sym (length-take-le _ _ (in_order_lem _ _ _ _ _ _ _ _ _ _ c.requires.0 c.requires.1 c.tabulate-n.ensures))

pub slice_bounds-connect_table-end-3 : goal.slice_bounds-connect_table-end-3
slice_bounds-connect_table-end-3 c =
    in_rows _ _ _ _ _ _ _ _ _ _ c.requires.0 c.requires.1 c.tabulate-n.ensures

pub slice_bounds-connect_table-end-4 : goal.slice_bounds-connect_table-end-4
slice_bounds-connect_table-end-4 c = sym (length-take-le _ _ (in_rows _ _ _ _ _ _ _ _ _ _ c.requires.0 c.requires.1 c.tabulate-n.ensures))

pub slice_bounds-connect_table-end-5 : goal.slice_bounds-connect_table-end-5
slice_bounds-connect_table-end-5 c =
    in-at _ _ _ _ _ _ _ _ _ _ c.requires.0 c.requires.1 c.tabulate-n.ensures

pub slice_bounds-connect_table-end-6 : goal.slice_bounds-connect_table-end-6
slice_bounds-connect_table-end-6 c = sym (length-take-le _ _ (in-at _ _ _ _ _ _ _ _ _ _ c.requires.0 c.requires.1 c.tabulate-n.ensures))

pub slice_bounds-connect_table-end-7 : goal.slice_bounds-connect_table-end-7
slice_bounds-connect_table-end-7 c =
    in-walked _ _ _ _ _ _ _ _ _ _ c.requires.0 c.requires.1 c.tabulate-n.ensures

pub slice_bounds-connect_table-end-8 : goal.slice_bounds-connect_table-end-8
slice_bounds-connect_table-end-8 c = sym (length-take-le _ _ (in-walked _ _ _ _ _ _ _ _ _ _ c.requires.0 c.requires.1 c.tabulate-n.ensures))

pub returns : goal.returns
returns c =
    laid-is _ _ _ _ _ _ _ _ _ _ c.requires.0 c.requires.1 c.tabulate-n.ensures c.tabulate-n.auto.places _ _ c.connect_table.ensures
