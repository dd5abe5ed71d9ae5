-- the resolved trees of typed programs are sound
pub mod sound
-- nodes and statements can be free of ticks
pub mod ticks
-- with nodes and statements free, resolved trees and simple forms are in lockstep
pub mod lockstep
-- so a typed program and its simple form mean the same
pub mod Same
-- simple forms keep to what their type asks for
pub mod formed
-- simple forms keep the counts that their programs keep
pub mod counts
-- what the code of the lowering puts
pub mod puts
