-- what the laws rest on: what a node looks like, what runs of fibers make of it, and what each choice leads to
mod Shapes
mod Runs
mod Turns
mod Every
-- the laws
mod Laws
