-- The checks decide.
use Rattle.connection.proofs.Checked.{passed-small, passed_is, refused-is}
use Rattle.connection.proofs.connect_edges.Goals as goal

pub connect_accepted-requires : goal.connect_accepted-requires
connect_accepted-requires c =
    passed-small _ _ _ _ _ _ c.accept.ensures c.in-Ok.is

pub returns-in-Ok : goal.returns-in-Ok
returns-in-Ok c =
    passed_is _ _ _ _ _ _ c.accept.ensures c.in-Ok.is _ c.connect_accepted.ensures

pub returns-in-Err : goal.returns-in-Err
returns-in-Err c = refused-is _ _ _ _ _ _ c.accept.ensures _ c.in-Err.is _ c.none_connected.ensures
